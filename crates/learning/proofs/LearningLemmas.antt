-- What learning keeps.
use Rattle.std.proofs.Common.{◌≡◌, ℕ, ◌+◌, ◌*◌, ◌/◌, ◌<◌, ◌≤◌, Bool, true, false, not, is_none, ◌&&◌, ◌||◌, ◌==◌, cond, nat_lt, nat_le, List, [], ◌∷◌, length, refl, ◌∙◌, sym, subst, ◌⊎◌, inl, inr, arith}
use Rattle.std.proofs.lemmas.Bool.Decides.{nat_tests}
use Rattle.std.specs.Ordering.{nat_cmp, ordering_then, is_le}
use Rattle.std.specs.declared.cmp.Ordering.{Ordering}
use Rattle.std.specs.declared.cmp.Ordering.TheVariants.{Less, Equal, Greater}
use Rattle.key_tuple.specs.declared.TheConstants.{MAX_FIELDS}
use Rattle.key_tuple.specs.declared.mode.Match.{Match}
use Rattle.key_tuple.specs.declared.mode.Params.{Params}
use Rattle.learning.specs.declared.info.Info.{Info}
use Rattle.learning.specs.declared.event.Descent.{Descent}
use Rattle.learning.specs.declared.event.Event.{Event}
use Rattle.learning.specs.declared.event.Event.TheVariants.{Hit, Miss, Descent as Down}
use Rattle.learning.specs.declared.event.BlockFigures.{BlockFigures}
use Rattle.learning.specs.declared.event.Figures.{Figures}
use Rattle.key_tuple.specs.Fold.{asked_fields}
use Rattle.learning.specs.Bounds.{IsInfoOf, AreFiguresOf, IsDescentOf, IsEventOf}
use Rattle.learning.specs.BuildRule.{is_worth_building}
use Rattle.learning.specs.Learning.{is_hashed_with, learn, learn_block, advised, has_helped, learn_descent, is_early, waiting, reviewed, info_after, one_more}
use Rattle.learning.specs.Recommendation.{extent_cmp, recommendation, recommendation_by, parting, promise, promise_by, stands_after, confirms}

-- a fact of both values of a choice
pub either_way : {A : Type 0} (P : A → Type 0) (b : Bool) (x y : A) → (b ≡ true → P x) → (b ≡ false → P y) → P (cond b x y)
either_way P true x y f g = f refl
either_way P false x y f g = g refl

reviewed_events : (info : Info) (d : Descent) → (reviewed info d).events ≡ info.events
reviewed_events info d = let P : Info → Type 0 = λ i. i.events ≡ info.events in
    either_way P (nat_lt 0 info.potential && confirms d.unique d.figures info.params) _ _ (λ _. refl) (λ _. refl)

events_descent : (info : Info) (d : Descent) → (learn_descent info d).events ≡ info.events + 1
events_descent info d = let P : Info → Type 0 = λ i. i.events ≡ info.events + 1 in
    either_way P (is_early info) _ _ (λ _. refl) (λ _. reviewed_events (waiting info) d)

pub events_learn : (info : Info) (event : Event) → (learn info event).events ≡ info.events + 1
events_learn info Hit = refl
events_learn info Miss = refl
events_learn info (Down d) = events_descent info d

pub events_after : (info : Info) (events : List Event) → (info_after info events).events ≡ info.events + length events
events_after info [] = omega arith
events_after info (e ∷ es) = let one = events_learn info e in let more = events_after (learn info e) es in omega arith

one_more_below : (limit n top : ℕ) → limit < top → n < top → one_more limit n < top
one_more_below limit n top l h = let P : ℕ → Type 0 = λ k. k < top in
    either_way P (nat_lt n limit) (n + 1) n (λ t. grind (arith, nat_tests)) (λ _. h)

-- a prefix asks for so many fields at most, and for few enough bytes
record IsPrefixOf (unique : ℕ) (p : Params) : Type 0 where
  asks : asked_fields p ≤ unique
  bytes : p.bytes < 1024

parting_asks : (unique : ℕ) (near far : Match) (left : Bool) → far.bytes ≤ 767 → near.fields ≤ unique → far.fields ≤ unique
    → (nat_lt far.fields near.fields ≡ false → far.fields ≡ near.fields) → IsPrefixOf unique (parting unique near far left)
parting_asks unique near far left b n f same = either_way (IsPrefixOf unique) (nat_le unique near.fields) _ _
    (λ _. record { asks = omega arith; bytes = omega arith })
    (λ few. either_way (IsPrefixOf unique) (nat_lt far.fields near.fields) _ _
    (λ t. record { asks = grind (arith, nat_tests); bytes = omega arith })
    (λ t. let e = same t in record { asks = grind (arith, nat_tests); bytes = omega arith }))

-- one extent is beyond another
abbrev Beyond : Match → Match → Type 0
Beyond a b = (b.fields < a.fields) ⊎ ((b.fields ≡ a.fields) × (b.bytes < a.bytes))

number_greater : (m n : ℕ) → nat_cmp m n ≡ Greater → n < m
number_greater m n e = grind (arith, nat_tests)

number_less : (m n : ℕ) → nat_cmp m n ≡ Less → m < n
number_less m n e = grind (arith, nat_tests)

number_equal : (m n : ℕ) → nat_cmp m n ≡ Equal → m ≡ n
number_equal m n e = grind (arith, nat_tests)

extent_greater : (a b : Match) → extent_cmp a b ≡ Greater → Beyond a b
extent_greater a b e = cases (nat_cmp a.fields b.fields) refl e
  where
    cases : (o : Ordering) → nat_cmp a.fields b.fields ≡ o → ordering_then o (nat_cmp a.bytes b.bytes) ≡ Greater → Beyond a b
    cases Greater q h = inl (number_greater a.fields b.fields q)
    cases Equal q h = inr (sym (number_equal a.fields b.fields q), number_greater a.bytes b.bytes h)
    cases Less q h = cc

extent_less : (a b : Match) → extent_cmp a b ≡ Less → Beyond b a
extent_less a b e = cases (nat_cmp a.fields b.fields) refl e
  where
    cases : (o : Ordering) → nat_cmp a.fields b.fields ≡ o → ordering_then o (nat_cmp a.bytes b.bytes) ≡ Less → Beyond b a
    cases Less q h = inl (number_less a.fields b.fields q)
    cases Equal q h = inr (number_equal a.fields b.fields q, number_less a.bytes b.bytes h)
    cases Greater q h = cc

nearer_fields : (a b : Match) → Beyond a b → nat_lt b.fields a.fields ≡ false → b.fields ≡ a.fields
nearer_fields a b (inl l) t = absurd (grind (arith, nat_tests))
nearer_fields a b (inr e) t = e.0

bytes_beyond : (a b : Match) → Beyond a b → b.fields ≡ a.fields → b.bytes < a.bytes
bytes_beyond a b (inl l) same = absurd (omega arith)
bytes_beyond a b (inr e) same = e.1

recommendation_asks : (unique : ℕ) (f : Figures) → 1 ≤ unique → AreFiguresOf unique f → IsPrefixOf unique (recommendation unique f)
recommendation_asks unique f one figures = cases (extent_cmp f.up f.low) refl
  where
    cases : (o : Ordering) → extent_cmp f.up f.low ≡ o → IsPrefixOf unique (recommendation_by o unique f)
    cases Equal e = record { asks = omega arith; bytes = omega arith }
    cases Greater e = parting_asks unique f.up f.low true figures.low_bytes figures.up_fields figures.low_fields (nearer_fields f.up f.low (extent_greater f.up f.low e))
    cases Less e = parting_asks unique f.low f.up false figures.up_bytes figures.low_fields figures.up_fields (nearer_fields f.low f.up (extent_less f.up f.low e))

fields_of_prefix : (unique : ℕ) (p : Params) → asked_fields p ≤ unique → p.fields ≤ unique
fields_of_prefix unique p h = let P : ℕ → Type 0 = λ n. n ≤ unique → p.fields ≤ unique in
    either_way P (p.bytes == 0) p.fields (p.fields + 1) (λ _ k. k) (λ _ k. omega arith) h

promise_small : (o : Ordering) → promise_by o < 128
promise_small Equal = omega arith
promise_small Greater = omega arith
promise_small Less = omega arith

reviewed_bounded : (unique : ℕ) (info : Info) (d : Descent) → 1 ≤ unique → unique ≤ 4 → IsInfoOf unique info → IsDescentOf unique d → IsInfoOf unique (reviewed info d)
reviewed_bounded unique info d one four i down = either_way (IsInfoOf unique) (nat_lt 0 info.potential && confirms d.unique d.figures info.params) _ _
    (λ _. record { asks = i.asks; fits = record { potential = one_more_below 127 info.potential 128 (omega arith) i.fits.potential; analysis = i.fits.analysis; fields = i.fits.fields; bytes = i.fits.bytes; events = i.fits.events } })
    (λ _. let Q : ℕ → Type 0 = λ u. IsPrefixOf u (recommendation d.unique d.figures) in
    let p : IsPrefixOf unique (recommendation d.unique d.figures) = subst Q down.fields (recommendation_asks d.unique d.figures (omega arith) record { low_fields = omega arith; up_fields = omega arith; low_bytes = down.figures.low_bytes; up_bytes = down.figures.up_bytes }) in
    let few : (recommendation d.unique d.figures).fields ≤ unique = fields_of_prefix unique (recommendation d.unique d.figures) p.asks in
    record { asks = p.asks; fits = record { potential = promise_small (extent_cmp d.figures.up d.figures.low); analysis = omega arith; fields = omega arith; bytes = p.bytes; events = i.fits.events } })

waiting_bounded : (unique : ℕ) (info : Info) → IsInfoOf unique info → info.events < 4294967295 → IsInfoOf unique (waiting info)
waiting_bounded unique info i room = record { asks = i.asks; fits = record { potential = i.fits.potential; analysis = one_more_below 17 info.analysis 32 (omega arith) i.fits.analysis; fields = i.fits.fields; bytes = i.fits.bytes; events = omega arith } }

with_last : (unique : ℕ) (info : Info) (b : Bool) → IsInfoOf unique info → IsInfoOf unique (record info { last = b })
with_last unique info b i = record { asks = i.asks; fits = record { potential = i.fits.potential; analysis = i.fits.analysis; fields = i.fits.fields; bytes = i.fits.bytes; events = i.fits.events } }

pub learn_bounded : (unique : ℕ) (info : Info) (event : Event) → 1 ≤ unique → unique ≤ MAX_FIELDS → IsInfoOf unique info → IsEventOf unique event → info.events < 4294967295 → IsInfoOf unique (learn info event)
learn_bounded unique info Hit one four i e room = record { asks = i.asks; fits = record { potential = one_more_below 105 info.potential 128 (omega arith) i.fits.potential; analysis = i.fits.analysis; fields = i.fits.fields; bytes = i.fits.bytes; events = omega arith } }
learn_bounded unique info Miss one four i e room = record { asks = i.asks; fits = record { potential = i.fits.potential; analysis = i.fits.analysis; fields = i.fits.fields; bytes = i.fits.bytes; events = omega arith } }
learn_bounded unique info (Down d) one four i e room = let w = waiting_bounded unique info i room in
    either_way (IsInfoOf unique) (is_early info) _ _ (λ _. w) (λ _. with_last unique (reviewed (waiting info) d) _ (reviewed_bounded unique (waiting info) d one four w e))

not_beyond : (a b : Match) → Beyond a b → is_le (extent_cmp a b) ≡ false
not_beyond a b h = grind (arith, nat_tests)

within_extent : (a b : Match) → (a.fields < b.fields) ⊎ ((a.fields ≡ b.fields) × (a.bytes ≤ b.bytes)) → is_le (extent_cmp a b) ≡ true
within_extent a b h = grind (arith, nat_tests)

or_true : (x : Bool) → x || true ≡ true
or_true true = refl
or_true false = refl

test_itself : (n : ℕ) → nat_le n n ≡ true
test_itself n = grind (arith, nat_tests)

-- a prefix whose group is entered just at the position
cut_left : (unique n b : ℕ) (f : Figures) → is_le (extent_cmp record { fields = n; bytes = b } f.low) ≡ false → is_le (extent_cmp record { fields = n; bytes = b } f.up) ≡ true → confirms unique f record { fields = n; bytes = b; left = true } ≡ true
cut_left unique n b f below above = (λ k. (nat_le unique n && nat_le unique f.up.fields) || (not (below k) && above k)) ∙ or_true (nat_le unique n && nat_le unique f.up.fields)

cut_right : (unique n b : ℕ) (f : Figures) → is_le (extent_cmp record { fields = n; bytes = b } f.low) ≡ true → is_le (extent_cmp record { fields = n; bytes = b } f.up) ≡ false → confirms unique f record { fields = n; bytes = b; left = false } ≡ true
cut_right unique n b f below above = (λ k. (nat_le unique n && nat_le unique f.up.fields) || (not (not (below k)) && not (above k))) ∙ or_true (nat_le unique n && nat_le unique f.up.fields)

all_fields : (unique : ℕ) (f : Figures) (left : Bool) → nat_le unique f.up.fields ≡ true → confirms unique f record { fields = unique; bytes = 0; left = left } ≡ true
all_fields unique f left up = λ k. (test_itself unique k && up k) || (not (stands_after record { fields = unique; bytes = 0; left = left } f.low) && stands_after record { fields = unique; bytes = 0; left = left } f.up)

parted_after : (unique : ℕ) (f : Figures) → Beyond f.up f.low → confirms unique f (parting unique f.up f.low true) ≡ true
parted_after unique f far = let P : Params → Type 0 = λ p. confirms unique f p ≡ true in
    either_way P (nat_le unique f.up.fields) _ _ (all_fields unique f true)
    (λ few. either_way P (nat_lt f.low.fields f.up.fields) _ _
    (λ t. cut_left unique (f.low.fields + 1) 0 f (not_beyond _ f.low (inl (omega arith))) (within_extent _ f.up (grind (arith, nat_tests))))
    (λ t. let same = nearer_fields f.up f.low far t in cut_left unique f.low.fields (f.low.bytes + 1) f (not_beyond _ f.low (inr (refl, omega arith))) (let more = bytes_beyond f.up f.low far same in within_extent record { fields = f.low.fields; bytes = f.low.bytes + 1 } f.up (inr (same, omega arith)))))

parted_before : (unique : ℕ) (f : Figures) → Beyond f.low f.up → confirms unique f (parting unique f.low f.up false) ≡ true
parted_before unique f far = let P : Params → Type 0 = λ p. confirms unique f p ≡ true in
    either_way P (nat_le unique f.low.fields) _ _
    (λ t. cases (nat_le unique f.up.fields) refl (grind (arith, nat_tests)))
    (λ few. either_way P (nat_lt f.up.fields f.low.fields) _ _
    (λ t. cut_right unique (f.up.fields + 1) 0 f (within_extent _ f.low (grind (arith, nat_tests))) (not_beyond _ f.up (inl (omega arith))))
    (λ t. let same = nearer_fields f.low f.up far t in cut_right unique f.up.fields (f.up.bytes + 1) f (let more = bytes_beyond f.low f.up far same in within_extent record { fields = f.up.fields; bytes = f.up.bytes + 1 } f.low (inr (same, omega arith))) (not_beyond _ f.up (inr (refl, omega arith)))))
  where
    cases : (b : Bool) → nat_le unique f.up.fields ≡ b → (unique < f.low.fields) ⊎ ((unique ≡ f.low.fields) × (0 ≤ f.low.bytes)) → confirms unique f record { fields = unique; bytes = 0; left = false } ≡ true
    cases true e h = all_fields unique f false e
    cases false e h = cut_right unique unique 0 f (within_extent _ f.low h) (not_beyond _ f.up (inl (grind (arith, nat_tests))))

pub confirmed : (unique : ℕ) (f : Figures) → 0 < promise f → confirms unique f (recommendation unique f) ≡ true
confirmed unique f some = cases (extent_cmp f.up f.low) refl some
  where
    cases : (o : Ordering) → extent_cmp f.up f.low ≡ o → 0 < promise_by o → confirms unique f (recommendation_by o unique f) ≡ true
    cases Equal e h = absurd (omega arith)
    cases Greater e h = parted_after unique f (extent_greater f.up f.low e)
    cases Less e h = parted_before unique f (extent_less f.up f.low e)

-- what a descent leaves of its block where the advice wouldn't have helped
pub block_advised : (info wait new : Info) (d : Descent) → wait ≡ waiting info → new ≡ reviewed wait d → false ≡ is_early info → false ≡ has_helped new d.block
    → record d.block { helps = 1; advice = new.params } ≡ learn_block info d
block_advised info wait new d w n early helped =
    let new_is : new ≡ reviewed (waiting info) d = n ∙ (λ k. reviewed (w k) d) in
    (λ k. cond (helped k) (record d.block { helps = one_more 4294967295 d.block.helps }) (record d.block { helps = 1; advice = new.params }))
    ∙ (λ k. cond (early k) d.block (advised (new_is k) d.block))

-- and where it would have helped
pub block_helped : (info wait new : Info) (d : Descent) (more : ℕ) → wait ≡ waiting info → new ≡ reviewed wait d → false ≡ is_early info → true ≡ has_helped new d.block
    → more ≡ one_more 4294967295 d.block.helps → record d.block { helps = more } ≡ learn_block info d
block_helped info wait new d more w n early helped m =
    let new_is : new ≡ reviewed (waiting info) d = n ∙ (λ k. reviewed (w k) d) in
    (λ k. record d.block { helps = m k })
    ∙ (λ k. cond (helped k) (record d.block { helps = one_more 4294967295 d.block.helps }) (record d.block { helps = 1; advice = new.params }))
    ∙ (λ k. cond (early k) d.block (advised (new_is k) d.block))

-- whether a block is worth building, where it has helped often enough and the index promises enough
pub worth_of_promise : (info : Info) (block : BlockFigures) (rows : ℕ) → rows / 16 < block.helps → 100 ≤ info.potential
    → (is_none block.built || nat_lt (2 * rows) block.helps || not (is_hashed_with block.advice block.built)) ≡ is_worth_building info block rows
worth_of_promise info block rows often enough = grind (arith, nat_tests)

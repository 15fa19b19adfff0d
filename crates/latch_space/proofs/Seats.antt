-- A pass whose seat has stepped: what stays of its facts, and what is so of it by what was so before.
use Rattle.std.proofs.Common.{◌≡◌, ℕ, ◌+◌, ◌-◌, ◌<◌, ◌≤◌, List, length, map, true, refl, ap, sym, subst, ◌∙◌, arith, Option, length-set, vec_capacity}
use Rattle.atomic_table.specs.declared.shared.Seat.{Seat}
use Rattle.latch_law.specs.declared.knows.Entry.{Entry}
use Rattle.latch_law.specs.declared.knows.Knows.{Knows}
use Rattle.latch_law.specs.declared.knows.Terms.{Terms}
use Rattle.latch_law.specs.Whole.{StateLaw, AnswerLaw, ReferenceLaw}
use Rattle.latch_law.specs.Fitting.{AreValuesOf, IsFitted, DidRead}
use Rattle.latch_law.specs.Views.{left_part, right_part, reading, refusing, settling}
use Rattle.latch_law.proofs.Lists.{length-learnt}
use Rattle.list_facts.proofs.Parts.{middle_inside}
use Rattle.latch_space.specs.declared.pass.HeldObject.{HeldObject}
use Rattle.latch_space.specs.declared.TheConstants.{MAX_HELD}
use Rattle.latch_space.specs.declared.pass.PassOf.{PassOf}
use Rattle.latch_space.specs.declared.space.SpaceOf.{SpaceOf}
use Rattle.latch_space.specs.Hands.{slot_of, has, is_held, is_once, spread}
use Rattle.latch_law.specs.declared.knows.Holding.{Holding}
use Rattle.latch_space.specs.Passes.{view, values, count, IsWhole}
use Rattle.latch_space.specs.Spaces.{IsPassOf}
use Rattle.latch_space.proofs.InHand.{held_learnt}
use Rattle.latch_space.proofs.Pointwise.{whole_from}

-- what stays of a pass at a step that takes and frees nothing
pub record Stays {Sh O C A : Type 0} (v v' : Knows Sh O C A) : Type 0 where
  pub low : v'.low ≡ v.low
  pub end : v'.end ≡ v.end
  pub terms : v'.terms ≡ v.terms
  pub held : length v'.held ≡ length v.held
  pub seen : length v'.seen ≡ length v.seen
  pub holding : (k : ℕ) → is_held v'.held k ≡ is_held v.held k

-- a seat stays the same one at a step and the next
pub same_seat : {Sh O C A : Type 0} (s t u : Seat (Option O) (Knows Sh O C A)) → (t.table_id ≡ s.table_id) × (t.id ≡ s.id) → (u.table_id ≡ t.table_id) × (u.id ≡ t.id) → (u.table_id ≡ s.table_id) × (u.id ≡ s.id)
same_seat s t u same more = (more.0 ∙ same.0, more.1 ∙ same.1)

-- what the fields of a pass keep
pub record AreFields {Sh O C A : Type 0} (seat : Seat (Option O) (Knows Sh O C A)) (low end : ℕ) (hand : List (HeldObject O)) : Type 0 where
  pub numbers : (low ≡ seat.me.0.low) × (end ≡ seat.me.0.end) × (low < end)
  pub out : seat.me.1 ≡ map slot_of hand
  pub holding : (k : ℕ) → has k hand ≡ is_held seat.me.0.held k
  pub once : is_once hand ≡ true
  pub all : (length seat.me.0.held ≡ seat.me.0.terms.objects) × (length seat.me.0.seen ≡ seat.me.0.terms.indexes)

module _ {Sh O C A : Type 0} where
  pub fields_stay : (p : PassOf Sh O C A) (seat : Seat (Option O) (Knows Sh O C A)) → Stays (view p) seat.me.0 → seat.me.1 ≡ p.seat.me.1 → AreFields seat p.low p.end p.hand.items
  fields_stay p seat s slots = let n = p.numbers in record {
    numbers = (n.0 ∙ sym s.low, n.1 ∙ sym s.end, n.2);
    out = slots ∙ p.out;
    holding = λ k. p.holding k ∙ sym (s.holding k);
    once = p.once;
    all = (s.held ∙ (p.all.0 ∙ ap (λ (t : Terms Sh). t.objects) (sym s.terms)), s.seen ∙ (p.all.1 ∙ ap (λ (t : Terms Sh). t.indexes) (sym s.terms)));
  }

  -- a pass has a number
  pub live_of : (p : PassOf Sh O C A) → (view p).low < (view p).end
  live_of p = let n = p.numbers in omega (arith, n.0, n.1, n.2)

  -- and each part of one that is cut has one
  pub left_live : (v v' : Knows Sh O C A) → v.low + 2 ≤ v.end → v' ≡ left_part v → v'.low < v'.end
  left_live v v' two is = subst (λ (z : Knows Sh O C A). z.low < z.end) (sym is) (middle_inside v.low v.end two).0

  pub right_live : (v v' : Knows Sh O C A) → v.low + 2 ≤ v.end → v' ≡ right_part v → v'.low < v'.end
  right_live v v' two is = subst (λ (z : Knows Sh O C A). z.low < z.end) (sym is) (middle_inside v.low v.end two).1

  -- the word of an object is one of the space's
  pub word_of : {Q : Type 0} (p : PassOf Sh O C A) (s : SpaceOf Sh O C A Q) → (view p).terms ≡ s.terms → (k : ℕ) → k < length (view p).held → k < s.table.shared.table_id.words
  word_of p s own k within = let all = p.all in let same : (view p).terms.objects ≡ s.terms.objects = ap (λ (t : Terms Sh). t.objects) own in let words = s.counts in omega (arith, all.0, same, words.0, within)

  -- the count of an index i, for a pass that knows v
  module _ {Q : Type 0} (s : SpaceOf Sh O C A Q) (v : Knows Sh O C A) (own : v.terms ≡ s.terms) (i : ℕ) where
    pub count_inside : i < s.terms.indexes → s.terms.objects + i < s.table.shared.table_id.words
    count_inside below = let words = s.counts in omega (arith, words.0, below)

    pub count_above : v.terms.objects ≤ s.terms.objects + i
    count_above = let same : v.terms.objects ≡ s.terms.objects = ap (λ (t : Terms Sh). t.objects) own in omega (arith, same)

    pub count_is : (s.terms.objects + i) - v.terms.objects ≡ i
    count_is = let same : v.terms.objects ≡ s.terms.objects = ap (λ (t : Terms Sh). t.objects) own in omega (arith, same)

    pub count_seen : i < length v.seen → (s.terms.objects + i) - v.terms.objects < length v.seen
    count_seen below = let is = count_is in omega (arith, is, below)

    pub below_most : (n : ℕ) → n < s.terms.max_changes → n < v.terms.max_changes
    below_most n below = let same : v.terms.max_changes ≡ s.terms.max_changes = ap (λ (t : Terms Sh). t.max_changes) own in omega (arith, same, below)

  -- a space has a word
  pub some_words : {Q : Type 0} (s : SpaceOf Sh O C A Q) → 0 < s.table.shared.table_id.words
  some_words s = let words = s.counts in omega (arith, words.0)

  -- and so is the one that comes behind them all
  pub own_word_of : {Q : Type 0} (p : PassOf Sh O C A) (s : SpaceOf Sh O C A Q) → (view p).terms ≡ s.terms → (k : ℕ) → k ≤ (view p).terms.objects → k < s.table.shared.table_id.words
  own_word_of p s own k most = let same : (view p).terms.objects ≡ s.terms.objects = ap (λ (t : Terms Sh). t.objects) own in let words = s.counts in omega (arith, same, words.0, most)

  -- a hand of as much room has enough
  pub room_stays : (p : PassOf Sh O C A) (n : ℕ) → n ≡ vec_capacity p.hand → MAX_HELD ≤ n
  room_stays p n same = subst (λ (z : ℕ). MAX_HELD ≤ z) (sym same) p.room

  -- an index of its space is one of those that it has seen
  pub index_in : {Q : Type 0} (s : SpaceOf Sh O C A Q) (p : PassOf Sh O C A) (i : ℕ) → IsPassOf s p → i < s.terms.indexes → (i < length (view p).seen) × (i < s.terms.indexes)
  index_in s p i own below = let all = p.all in let same : (view p).terms.indexes ≡ s.terms.indexes = ap (λ (t : Terms Sh). t.indexes) own.1 in (omega (arith, all.1, same, below), below)

module _ {Sh O C A : Type 0} (p p₀ : PassOf Sh O C A) (is : p ≡ p₀) where
  -- its seat is one of its space still
  pub table_after : {Q : Type 0} (s : SpaceOf Sh O C A Q) (seat : Seat (Option O) (Knows Sh O C A)) → IsPassOf s p₀ → seat.table_id ≡ p.seat.table_id → seat.table_id ≡ s.table.shared.table_id
  table_after s seat own same = same ∙ (ap (λ (z : PassOf Sh O C A). z.seat.table_id) is ∙ own.0)

  -- it is the same pass of the same space
  pub own_after : {Q : Type 0} (s : SpaceOf Sh O C A Q) (seat : Seat (Option O) (Knows Sh O C A)) → IsPassOf s p₀ → (seat.table_id ≡ p.seat.table_id) × (seat.id ≡ p.seat.id) → seat.me.0.terms ≡ (view p).terms
      → ((seat.table_id ≡ p₀.seat.table_id) × (seat.id ≡ p₀.seat.id)) × ((seat.table_id ≡ s.table.shared.table_id) × (seat.me.0.terms ≡ s.terms))
  own_after s seat own same terms = (
    (same.0 ∙ ap (λ (z : PassOf Sh O C A). z.seat.table_id) is, same.1 ∙ ap (λ (z : PassOf Sh O C A). z.seat.id) is),
    (same.0 ∙ (ap (λ (z : PassOf Sh O C A). z.seat.table_id) is ∙ own.0), terms ∙ (ap (λ (z : PassOf Sh O C A). (view z).terms) is ∙ own.1)),
  )

  -- it has in hand what it had, once it knows v
  pub hands_stay : (v : Knows Sh O C A) → v.held ≡ (view p).held → (v.held ≡ (view p₀).held) × (spread (length v.held) p.hand.items ≡ values p₀) × (count p ≡ count p₀)
  hands_stay v held = (held ∙ ap (λ (z : PassOf Sh O C A). (view z).held) is, ap (λ (z : List (Option (Holding O))). spread (length z) p.hand.items) held ∙ ap values is, ap count is)

module _ {Sh O C A : Type 0} (lawful : StateLaw Sh O C) (answers : AnswerLaw Sh O C A) (refers : ReferenceLaw Sh O C) where
  pub reads_stay : (v v' : Knows Sh O C A) (i n : ℕ) (a : A) → DidRead lawful answers refers v i a n v' → Stays v v'
  reads_stay v v' i n a did = subst (Stays v) (sym did.view) (stays did.list)
    where
      stays : (xs : List (Entry C)) → Stays v (reading v i xs a)
      stays xs = record { low = refl; end = refl; terms = refl; held = refl; seen = length-set v.seen i xs; holding = λ _. refl }

  pub read_fitted : (v v' : Knows Sh O C A) (i n : ℕ) (a : A) → DidRead lawful answers refers v i a n v' → IsFitted lawful answers refers v'
  read_fitted v v' i n a did = record { whole = did.stands.whole; is_lawful = did.stands.is_lawful; fits = did.stands.fits }

module _ {Sh O C A : Type 0} where
  pub settles_stay : (v v' : Knows Sh O C A) (vs : List (Option O)) → v' ≡ settling v vs → Stays v v'
  settles_stay v v' vs is = subst (Stays v) (sym is) record {
    low = refl;
    end = refl;
    terms = refl;
    held = length-learnt vs v.held;
    seen = refl;
    holding = held_learnt vs v.held;
  }

  pub settled_fields : (p : PassOf Sh O C A) (s : Seat (Option O) (Knows Sh O C A)) (vs : List (Option O)) → s.me ≡ (settling (view p) vs, p.seat.me.1) → AreFields s p.low p.end p.hand.items
  settled_fields p s vs did = fields_stay p s (settles_stay (view p) s.me.0 vs (ap (λ z. z.0) did)) (ap (λ z. z.1) did)

  pub refuses_stay : (v v' : Knows Sh O C A) (k n : ℕ) → v' ≡ refusing v k n → Stays v v'
  refuses_stay v v' k n is = subst (Stays v) (sym is) record { low = refl; end = refl; terms = refl; held = refl; seen = refl; holding = λ _. refl }

  -- there is a value in hand for each object that is held
  pub values_from : (p p₀ : PassOf Sh O C A) → p ≡ p₀ → (hand : List (HeldObject O)) → hand ≡ p.hand.items → IsWhole p₀ → AreValuesOf (view p) (spread (length (view p).held) hand)
  values_from p p₀ is hand same whole = subst (λ (z : List (HeldObject O)). AreValuesOf (view p) (spread (length (view p).held) z)) (sym same) (whole_from p p₀ is whole)

  -- and what is so of what it knows and has in hand stays so
  pub rule_from : (p p₀ : PassOf Sh O C A) → p ≡ p₀ → (hand : List (HeldObject O)) → hand ≡ p.hand.items → (F : Knows Sh O C A → List (Option O) → Type 0) → F (view p₀) (values p₀) → F (view p) (spread (length (view p).held) hand)
  rule_from p p₀ is hand same F so = subst (λ (z : List (HeldObject O)). F (view p) (spread (length (view p).held) z)) (sym same) (subst (λ (z : PassOf Sh O C A). F (view z) (values z)) (sym is) so)

  -- what is so of what a pass knows is so of what the same pass knows
  pub view_from : (p p₀ : PassOf Sh O C A) → p ≡ p₀ → (F : Knows Sh O C A → Type 0) → F (view p₀) → F (view p)
  view_from p p₀ is F = subst (λ (z : PassOf Sh O C A). F (view z)) (sym is)

-- a lawful state that fits what a pass knows fits what is the same
pub fitted_from : {Sh O C A : Type 0} (lawful : StateLaw Sh O C) (answers : AnswerLaw Sh O C A) (refers : ReferenceLaw Sh O C) (v v' : Knows Sh O C A) → v' ≡ v → IsFitted lawful answers refers v → IsFitted lawful answers refers v'
fitted_from lawful answers refers v v' is = subst (IsFitted lawful answers refers) (sym is)

-- A call from its load and its exchange.
use Rattle.std.proofs.Common.{◌≡◌, ◌≢◌, ℕ, ◌<◌, cond, List, [], ◌∷◌, ◌++◌, length, sym, ap, ◌∙◌, subst, arith, eq-eqb, ne_eqb, Some, None, ◌+◌}
use mathlib.Core.Option.{some}
use lib.ListN.{get_elem?}
use lib.Seq.{set-set}
use Rattle.atomic_table.proofs.Lists.{set_here}
use Rattle.learning.specs.declared.event.Event.{Event}
use Rattle.learning.specs.declared.info.Info.{Info}
use Rattle.learning.specs.Bounds.{IsInfoOf, IsEventOf}
use Rattle.learning.specs.BuildRule.{should_build}
use Rattle.learning.specs.Learning.{learn}
use Rattle.learning.specs.Word.{word_of, FitsWord}
use Rattle.learning.proofs.LearningLemmas.{learn_bounded}
use Rattle.search_info.specs.declared.knows.Entry.{Entry}
use Rattle.search_info.specs.declared.knows.Fate.TheVariants.{Raced as Overtaken, Worn as WornOut, Counted}
use Rattle.search_info.specs.declared.knows.Knows.{Knows}
use Rattle.search_info.specs.declared.knows.Opening.{Opening}
use Rattle.search_info.specs.declared.outcome.Learn.{Learn}
use Rattle.search_info.specs.declared.outcome.Learn.TheVariants.{Learnt, Raced, Worn}
use Rattle.search_info.specs.History.{Start, IsStart, known_after}
use Rattle.search_info.specs.Steps.{seeing, with_try, event_entry, Loaded, Hits, Misses}
use Rattle.search_info.specs.Exchanges.{HasRead, Overtakes, ExchangeTells}
use Rattle.search_info.specs.Outcomes.{Counts, IsOvertaken, TellsLearn, CountsAll, Recommends}
use Rattle.search_info.proofs.HistoryLemmas.{known_events}
use Rattle.search_info.proofs.TotalLemmas.{all_tried}
use Rattle.list_facts.proofs.Places.{inside, one_value}
use Rattle.search_info.proofs.StepLemmas.{loading_keeps}

-- what an exchange that missed tells
pub overtakes : (v v' : Knows) (i : ℕ) (s : Start) (xs : List Entry) (event : Event) (read found : Info) (word : ℕ) → get_elem? v.opening.starts i ≡ some s → read ≡ known_after s xs
    → Misses v i s xs event word v' → ((i : Info) → FitsWord i → word_of i ≡ word → found ≡ i) → Overtakes v i s xs event read found v'
overtakes v v' i s xs event read found word at read_is m un = let at' : get_elem? v'.opening.starts i ≡ some s = ap (λ (z : Knows). get_elem? z.opening.starts i) m.view ∙ at in
    let now : Info = known_after s (xs ++ m.more) in let e : found ≡ now = un now (m.stands.fits.history.infos i s (xs ++ m.more) at' m.stands.list).fits (sym m.word_is) in
    record { more = m.more; found_is = e; stands = m.stands; view = m.view ∙ (λ k. with_try v i event (Overtaken (sym read_is k) (sym e k))) }

-- the word that an exchange found is that of what was unpacked from it
pub unpacked_word : (v v' : Knows) (i : ℕ) (s : Start) (xs : List Entry) (event : Event) (found : Info) (word : ℕ) → get_elem? v.opening.starts i ≡ some s
    → Misses v i s xs event word v' → ((i : Info) → FitsWord i → word_of i ≡ word → found ≡ i) → word_of found ≡ word
unpacked_word v v' i s xs event found word at m un = let at' : get_elem? v'.opening.starts i ≡ some s = ap (λ (z : Knows). get_elem? z.opening.starts i) m.view ∙ at in
    let now : Info = known_after s (xs ++ m.more) in ap word_of (un now (m.stands.fits.history.infos i s (xs ++ m.more) at' m.stands.list).fits (sym m.word_is)) ∙ sym m.word_is

module _ (v v1 : Knows) (i : ℕ) (event : Event) (word : ℕ) (before : Info) (l : Loaded (Some event) v i word v1) (un : (i : Info) → FitsWord i → word_of i ≡ word → before ≡ i) where
  same : v1.opening ≡ v.opening
  same = (loading_keeps (Some event) v i l.start l.list v1 l.view).opening

  at_later : get_elem? v1.opening.starts i ≡ some l.start
  at_later = ap (λ (o : Opening). get_elem? o.starts i) same ∙ l.is_start

  begins : IsStart l.start
  begins = l.stands.fits.history.starts i l.start at_later

  known_bounded : IsInfoOf l.start.1 (known_after l.start l.list)
  known_bounded = l.stands.fits.history.infos i l.start l.list at_later l.stands.list

  before_known : before ≡ known_after l.start l.list
  before_known = un (known_after l.start l.list) known_bounded.fits (sym l.word_is)

  before_bounded : IsInfoOf l.start.1 before
  before_bounded = subst (IsInfoOf l.start.1) (sym before_known) known_bounded

  seen_is : before.events ≢ 4294967295 → v1 ≡ seeing v i l.list
  seen_is not_worn = l.view ∙ (λ k. cond (ne_eqb (known_after l.start l.list).events 4294967295 (λ e. not_worn (ap (λ (z : Info). z.events) before_known ∙ e)) k) (with_try (seeing v i l.list) i event WornOut) (seeing v i l.list))

  worn_is : before.events ≡ 4294967295 → v1 ≡ with_try (seeing v i l.list) i event WornOut
  worn_is worn = l.view ∙ (λ k. cond (eq-eqb (known_after l.start l.list).events 4294967295 (ap (λ (z : Info). z.events) (sym before_known) ∙ worn) k) (with_try (seeing v i l.list) i event WornOut) (seeing v i l.list))

  room_left : before.events ≢ 4294967295 → before.events < 4294967295
  room_left not_worn = let most = before_bounded.fits.events in omega arith

  pub has_read : before.events ≢ 4294967295 → length v.seen ≡ length v.opening.starts → (s : Start) → get_elem? v.opening.starts i ≡ some s → IsEventOf s.1 event → HasRead v1 i event word before
  has_read not_worn all s at fair = record {
    start = l.start;
    is_start = at_later;
    list = l.list;
    is_seen = ap (λ (z : Knows). get_elem? z.seen i) (seen_is not_worn) ∙ set_here v.seen i l.list (let within = inside v.opening.starts i s at in omega arith);
    word_is = l.word_is;
    before_is = before_known;
    begins = begins;
    bounded = before_bounded;
    fair = subst (λ (z : Start). IsEventOf z.1 event) (one_value v.opening.starts i s l.start at l.is_start) fair;
    room = room_left not_worn;
  }

  pub worn_tells : before.events ≡ 4294967295 → TellsLearn v i event Worn v1
  worn_tells worn = record { start = l.start; is_start = l.is_start; list = l.list; extends = l.extends; worn = ap (λ (z : Info). z.events) (sym before_known) ∙ worn; stands = l.stands; view = worn_is worn }

  module _ (not_worn : before.events ≢ 4294967295) (all : length v.seen ≡ length v.opening.starts) (s : Start) (at : get_elem? v.opening.starts i ≡ some s) (fair : IsEventOf s.1 event) (v2 : Knows) where
    read : HasRead v1 i event word before
    read = has_read not_worn all s at fair

    counts : (a : Info) → a ≡ learn before event → Hits v1 i l.list event v2 → Counts v i event before a v2
    unfolding read has_read
    counts a after hits = let seen : v1 ≡ seeing v i l.list = seen_is not_worn in let h : Hits (seeing v i l.list) i l.list event v2 = subst (λ (z : Knows). Hits z i l.list event v2) seen hits in record {
      start = l.start;
      is_start = l.is_start;
      list = l.list;
      extends = l.extends;
      before_is = before_known;
      room = room_left not_worn;
      after_is = after;
      bounded = (before_bounded, subst (IsInfoOf l.start.1) (sym after) (learn_bounded l.start.1 before event begins.some begins.few before_bounded read.fair (room_left not_worn)));
      stands = h.stands;
      view = h.view ∙ ap (λ (z : List (List Entry)). record v { seen = z; tries = v.tries ++ record { index = i; event = event; by = v.low; fate = Counted (length l.list) } ∷ [] }) (set-set v.seen i l.list (l.list ++ event_entry v event ∷ []));
    }

    overtaken : (found : Info) → before ≢ found → Overtakes v1 i l.start l.list event before found v2 → IsOvertaken v i event before found v2
    overtaken found differ late = let seen : v1 ≡ seeing v i l.list = seen_is not_worn in let o : Overtakes (seeing v i l.list) i l.start l.list event before found v2 = subst (λ (z : Knows). Overtakes z i l.start l.list event before found v2) seen late in record {
      start = l.start;
      is_start = l.is_start;
      list = l.list;
      extends = l.extends;
      more = o.more;
      read_is = before_known;
      room = room_left not_worn;
      found_is = o.found_is;
      differ = differ;
      bounded = (before_bounded, subst (IsInfoOf l.start.1) (sym o.found_is) (o.stands.fits.history.infos i l.start (l.list ++ o.more) (ap (λ (z : Knows). get_elem? z.opening.starts i) o.view ∙ l.is_start) o.stands.list));
      stands = o.stands;
      view = o.view;
    }

    pub tells : (r : Learn) → ExchangeTells v1 i event before r v2 → TellsLearn v i event r v2
    unfolding read has_read
    tells (Learnt b a build) x = subst (λ (z : Info). Counts v i event z a v2 × (build ≡ should_build z event)) (sym x.0) (counts a x.1 (x.3 l.list read.is_seen), x.2)
    tells (Raced b found) x = subst (λ (z : Info). IsOvertaken v i event z found v2) (sym x.0) (overtaken found (λ e. x.1 (x.0 ∙ e)) (subst (λ (z : Info). Overtakes v1 i l.start l.list event z found v2) x.0 (x.2 l.start l.list at_later read.is_seen)))
    tells Worn x = absurd x

-- what a load without an event found is what a pass with all numbers has counted
pub counts_all : (v v1 : Knows) (i word : ℕ) (info : Info) → Loaded None v i word v1 → ((k : Info) → FitsWord k → word_of k ≡ word → info ≡ k) → CountsAll v1 i info
counts_all v v1 i word info l un all s at = let f = l.stands.fits in let bounded = f.history.infos i s l.list at l.stands.list in
    let same : l.start ≡ s = one_value v.opening.starts i l.start s l.is_start (ap (λ (z : Knows). get_elem? z.opening.starts i) (sym l.view) ∙ at) in
    ap (λ (k : Info). k.events) (un (known_after s l.list) bounded.fits (sym (l.word_is ∙ ap (λ (z : Start). word_of (known_after z l.list)) same)))
    ∙ (known_events s l.list ∙ ap (λ (n : ℕ). s.0.events + n) (sym (all_tried l.stands.lists v1 i l.list f all l.stands.list)))

-- what a load without an event tells
pub recommends : (v v1 : Knows) (i word : ℕ) (info : Info) → Loaded None v i word v1 → ((k : Info) → FitsWord k → word_of k ≡ word → info ≡ k) → Recommends v i info v1
recommends v v1 i word info l un = let at : get_elem? v1.opening.starts i ≡ some l.start = ap (λ (z : Knows). get_elem? z.opening.starts i) l.view ∙ l.is_start in
    let bounded = l.stands.fits.history.infos i l.start l.list at l.stands.list in let is : info ≡ known_after l.start l.list = un (known_after l.start l.list) bounded.fits (sym l.word_is) in record {
      start = l.start;
      is_start = l.is_start;
      list = l.list;
      extends = l.extends;
      is = is;
      bounded = subst (IsInfoOf l.start.1) (sym is) bounded;
      stands = l.stands;
      view = l.view;
    }

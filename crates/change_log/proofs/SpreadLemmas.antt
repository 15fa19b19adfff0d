-- Changes that are put to the lists of their indexes.
use Rattle.std.proofs.Common.{◌≡◌, ℕ, ◌+◌, ◌<◌, ◌≤◌, eqb, eq-eqb, Some, List, [], ◌∷◌, ◌++◌, length, map, get_or, set, replicate, take, refl, vec_len, ap, sym, ◌∙◌, subst, arith, Vec, append_assoc}
use Rattle.std.proofs.lemmas.Bool.{ne_eqb}
use Rattle.std.proofs.lemmas.List.{append-nil, length-map, map-append, length-set, length-replicate, replicate_more, get_or-set_same, get_or-set_other, take_more}
use Rattle.std.proofs.lemmas.List.Elements.{filter-append}
use Rattle.std.proofs.lemmas.Grind.{flat_map-append}
use Rattle.std.proofs.lemmas.Option.{slice_get-get_or, get_or_from_slice_get}
use Rattle.std.specs.List.{slice_get}
use Rattle.std.specs.declared.alloc.Global.{Global}
use mathlib.Core.Logic.{dite}
use native.Mathlib.Decide.{ℕ_discrete as dec_eq}
use Rattle.list_facts.proofs.Places.{get_inside, one_at, get_there, replicate_is, elem_from_get}
use Rattle.list_facts.proofs.Elements.{map_get, map_get_from}
use Rattle.change_log.specs.declared.change.LaneChange.{LaneChange}
use Rattle.change_log.specs.Log.{ChangeNote, note_of, Log}
use Rattle.change_log.specs.Merge.{notes_on, notes_in, note_lists, Spreads, AreSpread}

-- no change changes no list
pub spread_none : (lists : List (List ChangeNote)) → Spreads [] lists lists
spread_none lists = record { count = refl; each = λ i list e. e ∙ ap Some (sym (append-nil list)) }

-- changes that are put one after another
pub spread_both : (a b : List ChangeNote) (x y z : List (List ChangeNote)) → Spreads a x y → Spreads b y z → Spreads (a ++ b) x z
spread_both a b x y z first second = record {
  count = second.count ∙ first.count;
  each = λ i list e.
      let test = λ (c : ChangeNote). eqb c.line.op.index i in
      second.each i (list ++ notes_on i a) (first.each i list e)
      ∙ ap Some (append_assoc list (notes_on i a) (notes_on i b) ∙ ap (λ r. list ++ r) (sym (filter-append test a b)));
}

-- the one change is of the index, or isn't
one_note : (c : ChangeNote) (i : ℕ) → c.line.op.index ≡ i → notes_on i (c ∷ []) ≡ c ∷ []
one_note c i same = rw (eq-eqb c.line.op.index i same) refl

no_note : (c : ChangeNote) (i : ℕ) → (c.line.op.index ≡ i → ⊥) → notes_on i (c ∷ []) ≡ []
no_note c i other = rw (ne_eqb c.line.op.index i other) refl

-- a change of an index that has no list
pub spread_past : (c : ChangeNote) (lists : List (List ChangeNote)) → length lists ≤ c.line.op.index → Spreads (c ∷ []) lists lists
spread_past c lists past = record {
  count = refl;
  each = λ i list e.
      let below = get_inside lists i list e in
      let other : c.line.op.index ≡ i → ⊥ = λ same. omega arith in
      e ∙ ap Some (sym (append-nil list)) ∙ ap (λ (t : List ChangeNote). Some (list ++ t)) (sym (no_note c i other));
}

-- the changes in a vector
abbrev notes : Vec LaneChange Global → List ChangeNote
notes v = map note_of v.items

-- the list of an index with one change more
pub spread_here : (c : LaneChange) (lists : List (Vec LaneChange Global)) (k : ℕ) (before after : Vec LaneChange Global) → (note_of c).line.op.index ≡ k → slice_get lists k ≡ Some before → after.items ≡ before.items ++ c ∷ [] → Spreads (note_of c ∷ []) (note_lists lists) (note_lists (set lists k after))
spread_here c lists k before after is was more = record {
  count = length-map (set lists k after) notes ∙ (length-set lists k after ∙ sym (length-map lists notes));
  each = λ i old e.
      let x = map_get_from notes lists i old e in
      dite (dec_eq i k) (λ same. here i old x.0 same x.1 x.2) (λ other. there i old x.0 other x.1 x.2);
}
  where
    here : (i : ℕ) (old : List ChangeNote) (v : Vec LaneChange Global) → i ≡ k → slice_get lists i ≡ Some v → notes v ≡ old → slice_get (note_lists (set lists k after)) i ≡ Some (old ++ notes_on i (note_of c ∷ []))
    here i old v same at is_old =
        let below = get_inside lists k before was in
        let within : k < length (set lists k after) = omega (arith, below, length-set lists k after) in
        let placed : slice_get (set lists k after) k ≡ Some after = slice_get-get_or (set lists k after) k after within ∙ ap Some (get_or-set_same lists k after after below) in
        let one_list : before ≡ v = one_at lists k before v was (ap (slice_get lists) (sym same) ∙ at) in
        ap (slice_get (note_lists (set lists k after))) same ∙ map_get notes (set lists k after) k after placed
        ∙ ap Some (ap (map note_of) more ∙ map-append note_of before.items (c ∷ [])
        ∙ ap (λ z. z ++ note_of c ∷ []) (ap notes one_list ∙ is_old) ∙ ap (λ z. old ++ z) (sym (one_note (note_of c) i (is ∙ sym same))))

    there : (i : ℕ) (old : List ChangeNote) (v : Vec LaneChange Global) → (i ≡ k → ⊥) → slice_get lists i ≡ Some v → notes v ≡ old → slice_get (note_lists (set lists k after)) i ≡ Some (old ++ notes_on i (note_of c ∷ []))
    there i old v other at is_old =
        let low = get_inside lists i v at in
        let within : i < length (set lists k after) = omega (arith, low, length-set lists k after) in
        let placed : slice_get (set lists k after) i ≡ Some v = slice_get-get_or (set lists k after) i v within ∙ ap Some (get_or-set_other lists k i after v other ∙ get_or_from_slice_get lists i v v at) in
        map_get notes (set lists k after) i v placed ∙ ap Some (is_old ∙ sym (append-nil old) ∙ ap (λ z. old ++ z) (sym (no_note (note_of c) i (λ same. other (sym same ∙ is)))))

-- changes of one log more
pub spread_log : (n : ℕ) (logs : List Log) (i : ℕ) (log : Log) (x y : List (List ChangeNote)) → i < length logs → log ≡ get_or logs i log → AreSpread n (take i logs) x → Spreads log.noted x y → AreSpread n (take (i + 1) logs) y
spread_log n logs i log x y below here so_far more = record {
  count = more.count ∙ so_far.count;
  each = λ k list e.
      let within = get_inside y k list e in
      let old = get_there x k (omega (arith, within, more.count)) in
      sym (one_at y k (old.0 ++ notes_on k log.noted) list (more.each k old.0 old.1) e)
      ∙ ap (λ z. z ++ notes_on k log.noted) (so_far.each k old.0 old.1)
      ∙ ap (λ z. notes_in k (take i logs) ++ z) (sym (append-nil (notes_on k log.noted)))
      ∙ sym (flat_map-append (λ (log : Log). notes_on k log.noted) (take i logs) (log ∷ []))
      ∙ ap (notes_in k) (sym (take_more logs i log below ∙ ap (λ l. take i logs ++ l ∷ []) (sym here)));
}

-- as many lists as vectors
pub as_many : (lists : List (Vec LaneChange Global)) → length (note_lists lists) ≡ length lists
as_many lists = length-map lists notes

-- empty lists have the changes of no log
pub spread_begins : (n : ℕ) (lists : List (List ChangeNote)) → lists ≡ replicate n [] → AreSpread n [] lists
spread_begins n lists is = record {
  count = ap length is ∙ length-replicate n [];
  each = λ i list e. sym (replicate_is n i [] list (elem_from_get (replicate n []) i list (ap (λ z. slice_get z i) (sym is) ∙ e)));
}

-- one empty list more
pub empty_more : (n : ℕ) (old new : List (Vec LaneChange Global)) (one : Vec LaneChange Global) → new ≡ old ++ one ∷ [] → one.items ≡ [] → note_lists old ≡ replicate n []
    → note_lists new ≡ replicate (n + 1) []
empty_more n old new one grown none so_far =
    ap note_lists grown ∙ map-append notes old (one ∷ []) ∙ ap (λ (ls : List (List ChangeNote)). ls ++ notes one ∷ []) so_far
    ∙ ap (λ (cs : List LaneChange). replicate n [] ++ map note_of cs ∷ []) none ∙ replicate_more n []

-- so many lists are below a number
pub lists_below : (lists : Vec (Vec LaneChange Global) Global) (n most : ℕ) → note_lists lists.items ≡ replicate n [] → n < most → vec_len lists < most
lists_below lists n most are below = omega (arith, below, lists.ok.0, as_many lists.items, ap length are, length-replicate {A = List ChangeNote} n [])

-- one change more of some
pub spread_next : (changes : List LaneChange) (i : ℕ) (c : LaneChange) (x y z : List (List ChangeNote)) → i < length changes → c ≡ get_or changes i c → Spreads (map note_of (take i changes)) x y → Spreads (note_of c ∷ []) y z → Spreads (map note_of (take (i + 1) changes)) x z
spread_next changes i c x y z below here first second = subst (λ notes. Spreads notes x z) (sym (ap (map note_of) (take_more changes i c below ∙ ap (λ d. take i changes ++ d ∷ []) (sym here)) ∙ map-append note_of (take i changes) (c ∷ [])))
    (spread_both (map note_of (take i changes)) (note_of c ∷ []) x y z first second)

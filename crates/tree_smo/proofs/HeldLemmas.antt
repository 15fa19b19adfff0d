-- A call that is made while a partition is held, which was taken before it and is given back behind it.
use Rattle.std.proofs.Common.{◌≡◌, ◌≢◌, ℕ, ◌<◌, List, [], ◌∷◌, ◌++◌, sym, ap, subst, ◌∙◌, arith, Option, Some, None}
use Rattle.std.specs.List.{AllByRecursion}
use lib.ListN.{get_elem?}
use Rattle.list_facts.proofs.Each.{each_left, each_right}
use Rattle.latch_space.specs.Has.{IsKnown}
use Rattle.latch_space.specs.Passes.{view, count}
use Rattle.index_law.specs.Shape.{Shape}
use Rattle.forest_law.specs.declared.objects.Frame.{Frame}
use Rattle.forest_law.specs.declared.objects.Tree.{Tree}
use Rattle.forest_law.specs.Numbers.{tree_id, part_id, frame_id}
use Rattle.forest_world.specs.Held.{TreePass, shape_of_pass, HasFrame}
use Rattle.call_law.specs.Hands.{KnowsFrame, KnowsTree, HoldsNoPart}
use Rattle.buffer_pool.specs.Calls.{DoesSilently}
use Rattle.buffer_pool.specs.Parts.{part_of_index, part_ids, HoldsPartIf, GivesPartIf}
use Rattle.buffer_pool.proofs.AddedLemmas.{frame_still, frame_before, tree_still}
use Rattle.buffer_pool.proofs.CallLemmas.{frame_has, silently_both, does_again, does_nothing}
use Rattle.tree_smo.specs.PartHeld.{HoldsExactIf, HoldsPartFor}
use Rattle.tree_smo.proofs.KeepingLemmas.{frame_no_part}
use Rattle.tree_smo.proofs.SilentLemmas.{silently_weaker, does_shape}

-- the partition, if there is one, is one of the space's
abbrev pub IsThere : Shape → Option ℕ → Type 0
IsThere s None = Unit {0}
IsThere s (Some k) = k < s.parts

pub part_there : (s : Shape) (o : Option ℕ) → 0 < s.parts → IsThere s (part_of_index s o)
part_there s None parts = tt
part_there s (Some i) parts = omega (arith, parts)

-- no frame and no tree has its number
frames_apart : (s : Shape) (part : Option ℕ) → IsThere s part → (b : ℕ)
    → AllByRecursion (λ (j : ℕ). frame_id s b ≢ j) (part_ids s part)
frames_apart s None there b = tt
frames_apart s (Some k) there b = (frame_no_part s b k there, tt)

trees_apart : (s : Shape) (part : Option ℕ) (i : ℕ) → i < s.indexes
    → AllByRecursion (λ (j : ℕ). tree_id i ≢ j) (part_ids s part)
trees_apart s None i below = tt
trees_apart s (Some k) i below = ((λ e. omega (arith, below, e)), tt)

-- the partition alone was taken or given back
module _ (p q : TreePass) (part : Option ℕ)
    (does : DoesSilently p q (part_ids (shape_of_pass p) part)) (there : IsThere (shape_of_pass p) part)
  where
    pub frame_to : (b : ℕ) (f : Frame) → KnowsFrame (view p) b f → KnowsFrame (view q) b f
    frame_to b f knows = frame_still (view p) (view q) (part_ids (shape_of_pass p) part)
        does.does.adds.numbers does.does.rest b (frames_apart (shape_of_pass p) part there b) f knows

    pub frame_from : (b : ℕ) (f : Frame) → KnowsFrame (view q) b f → KnowsFrame (view p) b f
    frame_from b f knows = frame_before (view p) (view q) (part_ids (shape_of_pass p) part)
        does.does.adds.numbers does.does.rest b (frames_apart (shape_of_pass p) part there b) f knows

    pub tree_to : (i : ℕ) (t : Tree) → i < (shape_of_pass p).indexes → KnowsTree (view p) i t
        → KnowsTree (view q) i t
    tree_to i t below knows = tree_still (view p) (view q) (part_ids (shape_of_pass p) part)
        does.does.rest i (trees_apart (shape_of_pass p) part i below) t knows

    pub tree_from : (i : ℕ) (t : Tree) → i < (shape_of_pass p).indexes → KnowsTree (view q) i t
        → KnowsTree (view p) i t
    tree_from i t below knows = (
      knows.0,
      sym (does.does.rest (tree_id i) (trees_apart (shape_of_pass p) part i below)) ∙ knows.1,
    )

    pub shape_to : shape_of_pass q ≡ shape_of_pass p
    shape_to = does_shape p q (part_ids (shape_of_pass p) part) does.added does.does

-- so it was with the partition that was held
pub held_silently : (p q : TreePass) → IsKnown p → (part : Option ℕ) → HoldsPartIf p part q
    → DoesSilently p q (part_ids (shape_of_pass p) part)
held_silently p q known None same = subst (λ (z : TreePass). DoesSilently p z []) (sym same)
    (does_nothing p known)
held_silently p q known (Some k) held = search

pub gave_silently : (p q : TreePass) → IsKnown p → (part : Option ℕ) → GivesPartIf p part q
    → DoesSilently p q (part_ids (shape_of_pass p) part)
gave_silently p q known None same = subst (λ (z : TreePass). DoesSilently p z []) (sym same)
    (does_nothing p known)
gave_silently p q known (Some k) gave = gave.silently

-- what is known of the partition that is held for a block
pub holds_for : (p q : TreePass) → IsKnown p → (part : Option ℕ) (b : ℕ) (f : Frame)
    → 0 < (shape_of_pass p).parts → ((x y : Frame) → HasFrame p b x y → f ≡ y)
    → part ≡ part_of_index (shape_of_pass p) f.hashed → HoldsPartIf p part q
    → HoldsPartFor (view q) b part
holds_for p q known part b f parts read named held = record {
  named = λ g knows. (let was = frame_from p q part does there b g knows in
      named ∙ (ap (λ (z : Frame). part_of_index (shape_of_pass p) z.hashed)
      (read g g (frame_has p known b g was))
      ∙ ap (λ (s : Shape). part_of_index s g.hashed) (sym (shape_to p q part does there))));
  held = exact part held (subst (λ (s : Shape). IsThere s part) (sym (shape_to p q part does there))
      there);
}
  where
    does : DoesSilently p q (part_ids (shape_of_pass p) part)
    does = held_silently p q known part held

    there : IsThere (shape_of_pass p) part
    there = subst (IsThere (shape_of_pass p)) (sym named)
        (part_there (shape_of_pass p) f.hashed parts)

    exact : (o : Option ℕ) → HoldsPartIf p o q → IsThere (shape_of_pass q) o
        → HoldsExactIf (view q) o
    exact None h below = tt
    exact (Some k) h below = (below, h.part, h.knows, h.exact)

-- objects that are held or lacked as before are among the rest
again : (p q : TreePass) (js ks : List ℕ)
    → AllByRecursion (λ (k : ℕ). get_elem? (view q).held k ≡ get_elem? (view p).held k) js
    → DoesSilently p q (js ++ ks) → DoesSilently p q ks
again p q [] ks same does = does
again p q (j ∷ js) ks same does = again p q js ks same.1 (record {
  added = does.added;
  does = does_again p q does.added j (js ++ ks) does.does same.0;
  silent = does.silent;
})

-- a call between both does what it does
module _ (p m n q : TreePass) (part : Option ℕ) (known : IsKnown p) (held : HoldsPartIf p part m)
    (gave : GivesPartIf n part q) (there : IsThere (shape_of_pass p) part)
    (none : HoldsNoPart (view p)) (ids all : Shape → List ℕ)
    (cover : (s : Shape) (j : ℕ) → AllByRecursion (λ (k : ℕ). j ≢ k) (ids s)
    → AllByRecursion (λ (k : ℕ). j ≢ k) (part_ids s part)
    → AllByRecursion (λ (k : ℕ). j ≢ k) (all s))
    (does : DoesSilently m n (all (shape_of_pass m))) where
  abbrev big : Shape → List ℕ
  big s = part_ids s part ++ ids s

  first : DoesSilently p m (big (shape_of_pass p))
  first = silently_weaker p m (part_ids (shape_of_pass p) part) (big (shape_of_pass p))
      (λ k a. each_left (λ (j : ℕ). k ≢ j) (part_ids (shape_of_pass p) part)
      (ids (shape_of_pass p)) a) (held_silently p m known part held)

  shape_m : shape_of_pass m ≡ shape_of_pass p
  shape_m = does_shape p m (big (shape_of_pass p)) first.added first.does

  second : DoesSilently p n (big (shape_of_pass p))
  second = silently_both p m n (big (shape_of_pass p)) first
      (subst (λ (s : Shape). DoesSilently m n (big s)) shape_m
      (silently_weaker m n (all (shape_of_pass m)) (big (shape_of_pass m))
      (λ k a. cover (shape_of_pass m) k
      (each_right (λ (j : ℕ). k ≢ j) (part_ids (shape_of_pass m) part) (ids (shape_of_pass m)) a)
      (each_left (λ (j : ℕ). k ≢ j) (part_ids (shape_of_pass m) part) (ids (shape_of_pass m)) a))
      does))

  pub shape_n : shape_of_pass n ≡ shape_of_pass p
  shape_n = does_shape p n (big (shape_of_pass p)) second.added second.does

  third : DoesSilently p q (big (shape_of_pass p))
  third = silently_both p n q (big (shape_of_pass p)) second
      (subst (λ (s : Shape). DoesSilently n q (big s)) shape_n
      (silently_weaker n q (part_ids (shape_of_pass n) part) (big (shape_of_pass n))
      (λ k a. each_left (λ (j : ℕ). k ≢ j) (part_ids (shape_of_pass n) part)
      (ids (shape_of_pass n)) a) (gave_silently n q does.does.known part gave)))

  lacked : (o : Option ℕ) → IsThere (shape_of_pass p) o → GivesPartIf n o q
      → AllByRecursion (λ (k : ℕ). get_elem? (view q).held k ≡ get_elem? (view p).held k)
      (part_ids (shape_of_pass p) o)
  lacked None below back = tt
  lacked (Some k) below back = (
    ap (λ (s : Shape). get_elem? (view q).held (part_id s k)) (sym shape_n)
        ∙ (back.lacks ∙ sym (none k below)),
    tt,
  )

  pub around_silently : DoesSilently p q (ids (shape_of_pass p))
  around_silently = again p q (part_ids (shape_of_pass p) part) (ids (shape_of_pass p))
      (lacked part there gave) third

  pub around_count : count n ≡ count m → count q ≡ count p
  around_count same = go part held gave
    where
      go : (o : Option ℕ) → HoldsPartIf p o m → GivesPartIf n o q → count q ≡ count p
      go None h g = ap count g ∙ (same ∙ ap count h)
      go (Some k) h g = let a = h.count in let b = g.count in omega (arith, a, b, same)

-- What a move between two frames leaves in hand.
use Rattle.std.proofs.Common.{◌≡◌, ℕ, Some, sym, subst, ◌∙◌}
use Rattle.list_facts.proofs.Places.{same_some}
use Rattle.index_page.specs.Page.{PageRows}
use Rattle.hash_partition.specs.Part.{Part}
use Rattle.hash_law.specs.Blocks.{part_for}
use Rattle.hash_upkeep.specs.declared.moves.Move.{Move}
use Rattle.hash_upkeep.specs.declared.upkeep.Upkeep.{Upkeep}
use Rattle.hash_upkeep.specs.Moves.{IsMoveAnswer, from_then, to_then}
use Rattle.forest_law.specs.declared.objects.Frame.{Frame}
use Rattle.forest_world.specs.Held.{TreePass, shape_of_pass}
use Rattle.hash_maintain.specs.Parting.{HoldsPartOut, PutsPartBack}
use Rattle.hash_maintain.specs.Moves.{MayMove, how_then, frame_hashed, KeepsUpBoth, first_hashed, move_in, MovedSinceExact, MovesInHand}
use Rattle.hash_maintain.proofs.HoldLemmas.{both_same, terms_of, in_hand, still_found}

-- such a move with folds cut to so many bits
abbrev pub move_cut : (bits index from_block to_block : ℕ) → Frame → Frame → Move
move_cut bits index from_block to_block from to = record {
  index = index;
  bits = bits;
  from = from_block;
  from_built = from.figures.built;
  to = to_block;
  to_built = to.figures.built;
}

-- what the plain call tells of both frames
pub record TellsMove (m : Move) (f g f' g' : Frame) (was now : Part) (answer : Upkeep) : Type 0 where
  pub keeps : KeepsUpBoth m f' g' was now
  pub told : (a b : PageRows) → f.page ≡ Some a → g.page ≡ Some b → IsMoveAnswer m a b was answer
  pub from_is : (page : PageRows) → f.page ≡ Some page
      → f' ≡ frame_hashed (how_then answer (from_then m page.head.level)) f
  pub to_is : g' ≡ frame_hashed (how_then answer (to_then m)) g

module _ (p : TreePass) (k index bits a b : ℕ) (f g : Frame)
    (part_is : k ≡ part_for (shape_of_pass p).parts index)
    (bits_are : bits ≡ (shape_of_pass p).fold_bits)
    (moved : MovedSinceExact p (part_for (shape_of_pass p).parts index) (move_in p index a b f g) f g)
  where
    abbrev part : ℕ
    part = part_for (shape_of_pass p).parts index

    -- what the plain call asks
    pub may_move : (m : TreePass) (was : Part) → HoldsPartOut p k was m
        → MayMove (move_cut bits index a b f g) f g was
    may_move m was held = subst (λ n. MayMove (move_cut n index a b f g) f g was) (sym bits_are)
        (let out = subst (λ d. HoldsPartOut p d was m) part_is held in
        moved.may was (in_hand p part m a was moved.gave moved.gave_exact out)
        (in_hand p part m b was moved.took moved.took_exact out))

    -- and what it leaves in hand
    pub moves_in_hand : (m q : TreePass) (was now : Part) (f' g' : Frame) (answer : Upkeep)
        → HoldsPartOut p k was m → PutsPartBack m k now q
        → TellsMove (move_cut bits index a b f g) f g f' g' was now answer → (i : ℕ)
        → first_hashed f g ≡ Some i → first_hashed f g ≡ Some index
        → MovesInHand p (part_for (shape_of_pass p).parts i) (move_in p i a b f g) f g f' g' answer q
    moves_in_hand m q was now f' g' answer held back tells i is found =
        let t = subst (λ n. TellsMove (move_cut n index a b f g) f g f' g' was now answer) bits_are
        tells in
        let out = subst (λ d. HoldsPartOut p d was m) part_is held in
        let put = subst (λ d. PutsPartBack m d now q) part_is back in
        subst (λ j. MovesInHand p (part_for (shape_of_pass p).parts j) (move_in p j a b f g) f g f' g'
        answer q) (same_some index i (sym found ∙ is))
        (record {
          known = out.known;
          was = was;
          now = now;
          before = still_found p part m q out.known was now out.before put;
          has = put.has out.known out.out;
          keeps = t.keeps;
          beside = both_same p m q part out.terms out.others put.others;
          terms = terms_of m q put.view ∙ out.terms;
          told = t.told;
          from_is = t.from_is;
          to_is = t.to_is;
        })

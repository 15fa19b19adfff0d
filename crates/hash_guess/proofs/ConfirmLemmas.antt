-- The row that a node names, looked at on the leaf in hand.
use Rattle.std.proofs.Common.{◌≡◌, ℕ, ◌≤◌, [], ◌∷◌, length, sym, ap, subst, ◌∙◌, refl, Bool, true, false, Option, Some, None, IsSome, IfNone, IfSome, is_some, not}
use lib.ListN.{get_elem?}
use Rattle.key_tuple.specs.Order.{FieldList}
use Rattle.key_tuple.specs.declared.mode.Mode.{Mode}
use Rattle.latch_law.specs.declared.knows.Holding.{Holding}
use Rattle.latch_law.specs.declared.knows.Terms.{Terms}
use Rattle.latch_law.specs.Views.{holding}
use Rattle.latch_space.specs.Has.{IsKnown}
use Rattle.latch_space.specs.Passes.{view, Lacks}
use Rattle.index_page.specs.Page.{PageRows, PlacesDiffer}
use Rattle.index_page.specs.Rows.{Row, find_row}
use Rattle.index_page.proofs.RowLemmas.{find_among}
use Rattle.chain_arena.specs.declared.node.Node.{Node}
use Rattle.index_law.specs.Shape.{Shape}
use Rattle.forest_law.specs.declared.objects.Frame.{Frame}
use Rattle.forest_law.specs.declared.objects.Object.{Object}
use Rattle.forest_law.specs.declared.objects.Object.TheVariants as object
use Rattle.forest_law.specs.FramePages.{FramesTellPages, TellsPage}
use Rattle.forest_law.specs.Numbers.{frame_id}
use Rattle.forest_law.specs.State.{fields_for}
use Rattle.forest_world.specs.Held.{TreePass, shape_of_pass, HasFrame}
use Rattle.hash_maintain.specs.Leaves.{HasRowInFrame}
use Rattle.buffer_pool.specs.Calls.{Does}
use Rattle.buffer_pool.specs.Forests.{IsFittedTree}
use Rattle.buffer_pool.specs.Frames.{GivesFrame}
use Rattle.buffer_pool.proofs.AddedLemmas.{only_given}
use Rattle.buffer_pool.proofs.CallLemmas.{gave_frame, frame_has}
use Rattle.buffer_pool.proofs.FrameLemmas.{one_held}
use Rattle.hash_guess.specs.Follows.{frame_id_of}
use Rattle.hash_guess.specs.Confirms.{HoldsNamedRow, SuitsFrame, ChecksFrame, Confirms, Refutes}

module _ (p : TreePass) (index : ℕ) (n : Node) (row : HoldsNamedRow p index n) where
  module _ (tells : FramesTellPages) (fitted : IsFittedTree (view p)) where
    tells_page : (page : PageRows) → row.frame.page ≡ Some page
        → TellsPage fitted.whole row.frame page
    tells_page page paged = tells fitted.whole fitted.is_lawful n.block row.frame page
        (ap (λ (s : Shape). get_elem? fitted.whole.objects (frame_id s n.block)) fitted.fits.shape
        ∙ fitted.fits.known (frame_id_of p n) (holding row.taken (object.Frame row.frame)) row.held)
        paged

    -- a page of the index has its index's fields
    pub suits_frame : (tuple : FieldList) → length tuple ≤ fields_for (shape_of_pass p) index
        → SuitsFrame row.frame index tuple
    suits_frame tuple few page paged is = subst (λ k. length tuple ≤ k)
        (sym ((tells_page page paged).order.fields
        ∙ (ap (fields_for fitted.whole.shape) is
        ∙ ap (λ (s : Shape). fields_for s index) fitted.fits.shape))) few

    -- and the row that the node names stands at its place
    pub has_row : HasRowInFrame row.frame n.place
    has_row = let named = row.named.row in
        let page = row.named.page in
        let at : find_row n.place page.rows ≡ Some named.row =
        ap (λ (m : Node). find_row m.place page.rows) named.node
        ∙ (ap (find_row named.row.place) named.parts
        ∙ find_among named.before named.row named.after
        (subst PlacesDiffer named.parts (tells_page page row.named.page_is).order.places)) in
        record {
          page = page;
          page_is = row.named.page_is;
          row = subst (λ (o : Option Row). IsSome o) (sym at) refl;
        }

  -- where nothing is told, the frame went out
  module _ (q : TreePass) (known : IsKnown p) (gave : GivesFrame p n.block q) where
    gave_does : Does p q (frame_id_of p n ∷ [])
        (only_given (frame_id_of p n) row.taken (object.Frame row.frame))
    gave_does = subst (λ (h : Holding Object). Does p q (frame_id_of p n ∷ [])
        (only_given (frame_id_of p n) h.taken h.known))
        (one_held p (frame_id_of p n) (holding gave.taken (object.Frame gave.frame))
        (holding row.taken (object.Frame row.frame)) gave.held row.held)
        (gave_frame p q known n.block gave)

    pub refutes : (mode : Mode) (tuple : FieldList)
        → ChecksFrame row.frame index mode tuple n.place None → Refutes p index mode tuple n q
    refutes mode tuple checks = record {
      row = row;
      checks = checks;
      does = gave_does;
      lacks = subst (λ (t : Terms Shape). Lacks q (frame_id t.shape n.block))
          gave_does.adds.numbers.terms gave.lacks;
      count = gave.count;
    }

  -- what is told of the frame that was read
  module _ (known : IsKnown p) (mode : Mode) (tuple : FieldList) (f : Frame)
      (read : (x y : Frame) → HasFrame p n.block x y → f ≡ y) where
    pub read_is : f ≡ row.frame
    read_is = read row.frame row.frame
        (frame_has p known n.block row.frame (row.taken, row.held))

    pub refutes_if : (told : Option Bool) → ChecksFrame f index mode tuple n.place told
        → (q : TreePass) → GivesFrame p n.block q
        → IfNone told (Refutes p index mode tuple n q)
    refutes_if None checks q gave = refutes q known gave mode tuple
        (subst (λ (g : Frame). ChecksFrame g index mode tuple n.place None) read_is checks)
    refutes_if (Some found) checks q gave = tt

    pub confirms_if : (told : Option Bool) → ChecksFrame f index mode tuple n.place told
        → IfSome told (λ found. (p ≡ p) × Confirms p index mode tuple n found)
    confirms_if None checks = tt
    confirms_if (Some found) checks = (
      refl,
      record {
        row = row;
        checks = subst (λ (g : Frame). ChecksFrame g index mode tuple n.place (Some found)) read_is
            checks;
      },
    )

-- of what is seen to be none nothing is told
pub none_tells : (P : Bool → Type 0) (told : Option Bool) (none : Bool) → is_some told ≡ not none
    → none ≡ true → IfSome told P
none_tells P None none is seen = tt
none_tells P (Some found) true is seen = absurd cc
none_tells P (Some found) false is seen = absurd cc

-- and what is not is some
pub some_tells : (P : Type 0) (told : Option Bool) (none : Bool) → is_some told ≡ not none
    → none ≡ false → IfNone told P
some_tells P None true is seen = absurd cc
some_tells P None false is seen = absurd cc
some_tells P (Some found) none is seen = tt

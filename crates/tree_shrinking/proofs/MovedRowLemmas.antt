-- All rows of a page that moved to another, as the hash sees them: by a merge, or by a lift.
use Rattle.std.proofs.Common.{◌≡◌, inr, ℕ, List, [], ◌++◌, sym, ap, subst, ◌∙◌, refl, Option, Some, None}
use Rattle.list_facts.proofs.Places.{same_some}
use Rattle.index_page.specs.declared.head.PageHead.{PageHead}
use Rattle.index_page.specs.Page.{PageRows}
use Rattle.clock_law.specs.ModifyClock.{ClockRises}
use Rattle.hash_law.specs.Blocks.{IsTidy}
use Rattle.hash_upkeep.proofs.LawLemmas.{moves_covered}
use Rattle.forest_law.specs.declared.objects.Frame.{Frame}
use Rattle.forest_law.specs.Hashed.{hash_block}
use Rattle.forest_law.specs.HashSteps.{KeepsHashing}
use Rattle.hash_maintain.specs.MoveLaws.{MovesRows}
use Rattle.tree_merging.specs.FrameMerges.{MergesFrame, MergesUnder}
use Rattle.tree_smo.specs.Keeping.{RehashesFrame}
use Rattle.key_tuple.specs.declared.mode.Params.{Params}
use Rattle.chain_arena.specs.declared.node.Node.{Node}
use Rattle.hash_upkeep.specs.declared.moves.Move.{Move}
use Rattle.hash_upkeep.specs.Hashing.{hashing_if, entries_if}
use Rattle.hash_law.specs.Entries.{NodesAt}
use Rattle.tree_merging.specs.Lifts.{LiftsFrame}
use Rattle.index_page.specs.Rows.{Row, SameRows}
use Rattle.hash_upkeep.specs.Laws.{AreBothExact}
use Rattle.hash_upkeep.specs.Moves.{AreBothCovered}

-- nodes that were exact have the folds of the rows that moved, and of those before them
rows_covered : (m : Move) (nodes : List Node) (from to given got : PageRows) (moved : List Row)
    → got.rows ≡ to.rows ++ moved → SameRows from.rows moved → AreBothExact m from to nodes
    → AreBothCovered m given got nodes
rows_covered m nodes from to given got moved behind same exact =
    let covered = (moves_covered m nodes).all from (record from { rows = [] }) to
    (record to { rows = got.rows }) given (record {
      moved = moved;
      gone = refl;
      behind = behind;
      same = same;
      head = refl;
      to_head = refl;
    }) exact in
    record { gave = covered.gave; took = covered.took }

-- a frame that lost its page's rows did so, however it is hashed then
lost : (f g h : Frame) → g ≡ record f {
  page = g.page;
  low = None;
  high = None;
  clock = g.clock;
  figures = g.figures;
  hashed = g.hashed;
} → RehashesFrame g h → h ≡ record f {
  page = h.page;
  low = None;
  high = None;
  clock = h.clock;
  figures = h.figures;
  hashed = h.hashed;
}
lost f g h is rest = λ i. record h {
  low = (ap (λ (x : Frame). x.low) rest ∙ ap (λ (x : Frame). x.low) is) i;
  high = (ap (λ (x : Frame). x.high) rest ∙ ap (λ (x : Frame). x.high) is) i;
}

module _ {l l' r r' u u' : Frame} (c : MergesUnder l l' r r' u u') (gave : KeepsHashing r r')
    (took : KeepsHashing l l') (tidy : IsTidy (hash_block l)) where
  abbrev m : MergesFrame l l' r r' c.at
  m = c.merge

  -- all rows of the right page moved to the left one
  pub merge_moves : MovesRows m.page.head.index m.page.head.fields r r' l l'
  merge_moves = record {
    from = m.other;
    left = m.gone;
    to = m.page;
    got = m.whole;
    from_is = record {
      page_is = m.had_other;
      index_is = m.follows.index;
      fields_are = m.follows.fields;
    };
    left_is = record {
      page_is = m.has_gone;
      index_is = ap (λ (p : PageRows). p.head.index) m.merges.is_gone ∙ m.follows.index;
      fields_are = ap (λ (p : PageRows). p.head.fields) m.merges.is_gone ∙ m.follows.fields;
    };
    to_is = record { page_is = m.had; index_is = refl; fields_are = refl };
    got_is = record {
      page_is = m.has;
      index_is = ap (λ (h : PageHead). h.index) m.merges.head;
      fields_are = ap (λ (h : PageHead). h.fields) m.merges.head;
    };
    gave = gave;
    took = took;
    level = ap (λ (h : PageHead). h.level) m.merges.head ∙ sym m.follows.level;
    leaf = λ i is. (let leaf = tidy.leaf i is in
        let same = same_some leaf.page m.page (sym leaf.page_is ∙ m.had) in
        ap (λ (h : PageHead). h.level) m.merges.head
        ∙ (ap (λ (p : PageRows). p.head.level) (sym same) ∙ leaf.leaf));
    empty = inr (ap (λ (p : PageRows). p.rows) m.merges.is_gone);
    covered = λ move nodes built exact. rows_covered move nodes m.other m.page m.gone m.whole
        m.merges.moved m.merges.behind m.merges.same exact;
  }

-- frames that are hashed otherwise were still merged
pub rehashed_merge : {l m m' r n n' u x : Frame} → MergesUnder l m r n u x → RehashesFrame m m'
    → RehashesFrame n n' → MergesUnder l m' r n' u x
rehashed_merge {l} {m} {m'} {r} {n} {n'} under left right = let c = under.merge in record {
  at = under.at;
  merge = record {
    page = c.page;
    whole = c.whole;
    other = c.other;
    gone = c.gone;
    had = c.had;
    has = ap (λ (f : Frame). f.page) left ∙ c.has;
    had_other = c.had_other;
    has_gone = ap (λ (f : Frame). f.page) right ∙ c.has_gone;
    follows = c.follows;
    merges = c.merges;
    reaches = ap (λ (f : Frame). f.high) left ∙ c.reaches;
    rises = subst (ClockRises l.clock) (sym (ap (λ (f : Frame). f.clock) left)) c.rises;
    right_rises = subst (ClockRises r.clock) (sym (ap (λ (f : Frame). f.clock) right))
        c.right_rises;
    left = λ i. record m' {
      low = (ap (λ (f : Frame). f.low) left ∙ ap (λ (f : Frame). f.low) c.left) i;
    };
    right = lost r n n' c.right right;
  };
  pointer = under.pointer;
}

none_some : (i : ℕ) → None ≡ Some i → ⊥
none_some i e = absurd cc

-- a block that was built with no parameters had no entries, whatever its rows
none_exact : (m : Move) (o : Option Params) (nodes : List Node) (rows : List Row) → o ≡ None
    → NodesAt m.to nodes (entries_if (hashing_if m.index m.to m.bits o) rows)
    → NodesAt m.to nodes (entries_if (hashing_if m.index m.to m.bits o) [])
none_exact m None nodes rows none at = at
none_exact m (Some params) nodes rows none at = absurd (params_none params none)
  where
    params_none : (x : Params) → Some x ≡ None → ⊥
    params_none x e = absurd cc

-- all rows of the only child moved to the root, which wasn't hashed and had none but the pointer
pub lift_moves : {t t' b b' : Frame} (c : LiftsFrame t t' b b') → KeepsHashing b b'
    → KeepsHashing t t' → t.hashed ≡ None → t.figures.built ≡ None
    → c.under.head.index ≡ c.page.head.index → c.under.head.fields ≡ c.page.head.fields
    → MovesRows c.page.head.index c.page.head.fields b b' t t'
lift_moves c gave took none unbuilt index fields = record {
  from = c.under;
  left = c.gone;
  to = c.page;
  got = c.top;
  from_is = record { page_is = c.had_under; index_is = index; fields_are = fields };
  left_is = record {
    page_is = c.has_gone;
    index_is = ap (λ (p : PageRows). p.head.index) c.lifts.is_gone ∙ index;
    fields_are = ap (λ (p : PageRows). p.head.fields) c.lifts.is_gone ∙ fields;
  };
  to_is = record { page_is = c.had; index_is = refl; fields_are = refl };
  got_is = record {
    page_is = c.has;
    index_is = ap (λ (h : PageHead). h.index) c.lifts.head;
    fields_are = ap (λ (h : PageHead). h.fields) c.lifts.head;
  };
  gave = gave;
  took = took;
  level = ap (λ (h : PageHead). h.level) c.lifts.head;
  leaf = λ i is. absurd (none_some i (sym none ∙ is));
  empty = inr (ap (λ (p : PageRows). p.rows) c.lifts.is_gone);
  covered = λ move nodes built exact. rows_covered move nodes c.under (record c.page { rows = [] })
      c.gone c.top c.top.rows refl c.lifts.go (record {
        gave = exact.gave;
        took = none_exact move move.to_built nodes c.page.rows (built ∙ unbuilt) exact.took;
      });
}

-- frames that are hashed otherwise were still lifted
pub rehashed_lift : {t m m' b n n' : Frame} → LiftsFrame t m b n → RehashesFrame m m'
    → RehashesFrame n n' → LiftsFrame t m' b n'
rehashed_lift {t} {m} {m'} {b} {n} {n'} c root child = record {
  page = c.page;
  top = c.top;
  under = c.under;
  gone = c.gone;
  had = c.had;
  has = ap (λ (f : Frame). f.page) root ∙ c.has;
  had_under = c.had_under;
  has_gone = ap (λ (f : Frame). f.page) child ∙ c.has_gone;
  lifts = c.lifts;
  rises = subst (ClockRises t.clock) (sym (ap (λ (f : Frame). f.clock) root)) c.rises;
  under_rises = subst (ClockRises b.clock) (sym (ap (λ (f : Frame). f.clock) child)) c.under_rises;
  root = λ i. record m' {
    low = (ap (λ (f : Frame). f.low) root ∙ ap (λ (f : Frame). f.low) c.root) i;
    high = (ap (λ (f : Frame). f.high) root ∙ ap (λ (f : Frame). f.high) c.root) i;
  };
  child = lost b n n' c.child child;
}

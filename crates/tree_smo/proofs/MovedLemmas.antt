-- Rows that a split or a raise moved, as the hash sees them.
use Rattle.std.proofs.Common.{◌≡◌, inl, ℕ, List, [], ◌∷◌, ◌++◌, sym, ap, subst, ◌∙◌, refl, Some, None}
use Rattle.key_tuple.specs.Order.{FieldList}
use Rattle.index_page.specs.declared.head.PageHead.{PageHead}
use Rattle.index_page.specs.Moves.{MovesTail}
use Rattle.index_page.specs.Page.{PageRows}
use Rattle.index_page.specs.Rows.{Row, SameRows}
use Rattle.chain_arena.specs.declared.node.Node.{Node}
use Rattle.hash_upkeep.specs.declared.moves.Move.{Move}
use Rattle.hash_upkeep.specs.Hashing.{nodes_if}
use Rattle.hash_upkeep.specs.Cover.{AreCovered}
use Rattle.hash_upkeep.specs.Laws.{MovesAreCovered}
use Rattle.hash_upkeep.specs.Moves.{from_was, to_was, AreBothCovered}
use Rattle.forest_law.specs.declared.objects.Frame.{Frame}
use Rattle.forest_law.specs.HashSteps.{KeepsHashing}
use Rattle.forest_law.specs.State.{bound}
use Rattle.clock_law.specs.ModifyClock.{ClockRises}
use Rattle.hash_maintain.specs.MoveLaws.{MovesRows}
use Rattle.tree_law.specs.PageMoves.{BeginsAt}
use Rattle.tree_restructure.specs.FrameCuts.{CutsFrame}
use Rattle.tree_restructure.specs.Raises.{RaisesFrame}
use Rattle.tree_smo.specs.Keeping.{RehashesFrame}

none_some : (i : ℕ) → None ≡ Some i → ⊥
none_some i e = absurd cc

-- nodes are covered by rows, whatever the pages' heads are
covered_rows : (m : Move) (a b c d : PageRows) (nodes : List Node) → a.rows ≡ c.rows
    → b.rows ≡ d.rows → AreBothCovered m a b nodes → AreBothCovered m c d nodes
covered_rows m a b c d nodes one two covered = record {
  gave = subst (λ xs. AreCovered m.from nodes (nodes_if (from_was m) xs ++ nodes_if (from_was m) d.rows))
      one (subst (λ ys. AreCovered m.from nodes
      (nodes_if (from_was m) a.rows ++ nodes_if (from_was m) ys)) two covered.gave);
  took = subst (λ ys. AreCovered m.to nodes (nodes_if (to_was m) ys)) two covered.took;
}

-- rows from some row on that went to a page that had none are a tail
tail_moved : (page fresh : PageRows) (lower upper rows : List Row) (at : FieldList)
    → page.rows ≡ lower ++ upper → SameRows upper rows → BeginsAt at rows
    → (first : ℕ) × MovesTail page (record page { rows = lower }) fresh
    (record fresh { rows = rows }) first
tail_moved page fresh lower [] [] at was go begins = absurd begins
tail_moved page fresh lower [] (y ∷ ys) at was go begins = absurd go
tail_moved page fresh lower (x ∷ xs) rows at was go begins = (
  x.place,
  record {
    left = lower;
    row = x;
    right = xs;
    was = was;
    place_is = refl;
    stay = refl;
    go = go;
    head = refl;
    to_head = refl;
  },
)

-- a page that was cut in two moved rows
module _ (covered : (m : Move) (nodes : List Node) → MovesAreCovered m nodes) where
  pub cut_moves : (l l' r r' : Frame) (at : FieldList) (c : CutsFrame l l' r r' at)
      → KeepsHashing l l' → KeepsHashing r r' → r.hashed ≡ None
      → MovesRows c.page.head.index c.page.head.fields l l' r r'
  cut_moves l l' r r' at c gave took none = record {
    from = c.page;
    left = c.stays;
    to = c.fresh;
    got = c.new;
    from_is = record { page_is = c.had; index_is = refl; fields_are = refl };
    left_is = record {
      page_is = c.has;
      index_is = ap (λ (z : PageHead). z.index) c.cuts.head;
      fields_are = ap (λ (z : PageHead). z.fields) c.cuts.head;
    };
    to_is = record {
      page_is = c.had_fresh;
      index_is = c.blank.index;
      fields_are = c.blank.fields;
    };
    got_is = record {
      page_is = c.has_new;
      index_is = ap (λ (z : PageHead). z.index) c.cuts.new_head ∙ c.blank.index;
      fields_are = ap (λ (z : PageHead). z.fields) c.cuts.new_head ∙ c.blank.fields;
    };
    gave = gave;
    took = took;
    level = ap (λ (z : PageHead). z.level) c.cuts.new_head ∙ c.blank.level;
    leaf = λ i e. absurd (none_some i (sym none ∙ e));
    empty = inl c.blank.empty;
    covered = λ m nodes built exact.
        (let tail = tail_moved c.page c.fresh c.cuts.lower c.cuts.upper c.new.rows at c.cuts.was
        c.cuts.go c.cuts.begins in
        covered_rows m (record c.page { rows = c.cuts.lower })
        (record c.fresh { rows = c.new.rows }) c.stays c.new nodes (sym c.cuts.stay) refl
        ((covered m nodes).tail c.page (record c.page { rows = c.cuts.lower }) c.fresh
        (record c.fresh { rows = c.new.rows }) tail.0 c.blank.empty tail.1 exact));
  }

  -- and so did a root that rose
  pub raise_moves : (t t' b b' : Frame) (c : RaisesFrame t t' b b') → KeepsHashing t t'
      → KeepsHashing b b' → b.hashed ≡ None
      → MovesRows c.page.head.index c.page.head.fields t t' b b'
  raise_moves t t' b b' c gave took none = record {
    from = c.page;
    left = c.top;
    to = c.fresh;
    got = c.new;
    from_is = record { page_is = c.had; index_is = refl; fields_are = refl };
    left_is = record {
      page_is = c.has;
      index_is = ap (λ (z : PageHead). z.index) c.raises.head;
      fields_are = ap (λ (z : PageHead). z.fields) c.raises.head;
    };
    to_is = record {
      page_is = c.had_fresh;
      index_is = c.blank.index;
      fields_are = c.blank.fields;
    };
    got_is = record {
      page_is = c.has_new;
      index_is = ap (λ (z : PageHead). z.index) c.raises.new_head ∙ c.blank.index;
      fields_are = ap (λ (z : PageHead). z.fields) c.raises.new_head ∙ c.blank.fields;
    };
    gave = gave;
    took = took;
    level = ap (λ (z : PageHead). z.level) c.raises.new_head ∙ c.blank.level;
    leaf = λ i e. absurd (none_some i (sym none ∙ e));
    empty = inl c.blank.empty;
    covered = λ m nodes built exact.
        covered_rows m c.top (record c.fresh { rows = c.new.rows }) c.top c.new nodes refl refl
        ((covered m nodes).all c.page (record c.page { rows = [] }) c.fresh
        (record c.fresh { rows = c.new.rows }) c.top (record {
          moved = c.new.rows;
          gone = refl;
          behind = ap (λ xs. xs ++ c.new.rows) (sym c.blank.empty);
          same = c.raises.go;
          head = refl;
          to_head = refl;
        }) exact);
  }

-- a frame that is hashed otherwise was still cut
abbrev pub rehashed_cut : (l m m' r n n' : Frame) (at : FieldList) → CutsFrame l m r n at
    → RehashesFrame m m' → RehashesFrame n n' → CutsFrame l m' r n' at
rehashed_cut l m m' r n n' at c left right = record {
  page = c.page;
  stays = c.stays;
  fresh = c.fresh;
  new = c.new;
  had = c.had;
  has = ap (λ (f : Frame). f.page) left ∙ c.has;
  had_fresh = c.had_fresh;
  has_new = ap (λ (f : Frame). f.page) right ∙ c.has_new;
  blank = c.blank;
  cuts = c.cuts;
  ends = ap (λ (f : Frame). bound f.high) left ∙ c.ends;
  begins = ap (λ (f : Frame). bound f.low) right ∙ c.begins;
  reaches = ap (λ (f : Frame). f.high) right ∙ c.reaches;
  rises = subst (ClockRises l.clock) (sym (ap (λ (f : Frame). f.clock) left)) c.rises;
  right_rises = subst (ClockRises r.clock) (sym (ap (λ (f : Frame). f.clock) right)) c.right_rises;
  left = λ i. record m' {
    low = (ap (λ (f : Frame). f.low) left ∙ ap (λ (f : Frame). f.low) c.left) i;
  };
  right = refl;
}

-- or rose
abbrev pub rehashed_raise : (t m m' b n n' : Frame) → RaisesFrame t m b n → RehashesFrame m m'
    → RehashesFrame n n' → RaisesFrame t m' b n'
rehashed_raise t m m' b n n' c root under = record {
  page = c.page;
  top = c.top;
  fresh = c.fresh;
  new = c.new;
  had = c.had;
  has = ap (λ (f : Frame). f.page) root ∙ c.has;
  had_fresh = c.had_fresh;
  has_new = ap (λ (f : Frame). f.page) under ∙ c.has_new;
  blank = c.blank;
  raises = c.raises;
  rises = subst (ClockRises t.clock) (sym (ap (λ (f : Frame). f.clock) root)) c.rises;
  under_rises = subst (ClockRises b.clock) (sym (ap (λ (f : Frame). f.clock) under)) c.under_rises;
  root = λ i. record m' {
    low = (ap (λ (f : Frame). f.low) root ∙ ap (λ (f : Frame). f.low) c.root) i;
    high = (ap (λ (f : Frame). f.high) root ∙ ap (λ (f : Frame). f.high) c.root) i;
  };
  under = λ i. record n' {
    low = (ap (λ (f : Frame). f.low) under ∙ ap (λ (f : Frame). f.low) c.under) i;
    high = (ap (λ (f : Frame). f.high) under ∙ ap (λ (f : Frame). f.high) c.under) i;
  };
}

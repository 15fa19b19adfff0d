-- The way from the slots to the cut.
use Rattle.std.proofs.Common.{◌≡◌, ℕ, zero, suc, ◌+◌, ◌<◌, ◌≤◌, Bool, true, false, List, [], ◌∷◌, ◌++◌, length, slice_index, refl, sym, ap, subst, ◌∙◌, arith, length-append, Less, Greater}
use Rattle.std.proofs.lemmas.List.{append_assoc}
use Rattle.std.proofs.lemmas.Bool.{false≢true}
use Rattle.std.specs.List.{AllByRecursion}
use Rattle.list_facts.proofs.Each.{each_left, each_right, each_append}
use Rattle.key_tuple.specs.Order.{FieldList}
use Rattle.key_tuple.specs.KeyPlace.{KeyPlace, At, IsCut, cut_of}
use Rattle.key_tuple.specs.Figures.{matching}
use Rattle.key_tuple.specs.declared.mode.Match.{Match}
use Rattle.key_tuple.specs.declared.mode.Mode.{Mode}
use Rattle.page_mirror.specs.Steps.{HasOrigin}
use Rattle.page_directory.specs.Groups.{Group}
use Rattle.page_directory.proofs.OwnerLemmas.{count_sizes}
use Rattle.index_page.specs.Rows.{Row, first_of_rows, last_of_rows}
use Rattle.index_page.specs.Page.{RowsAscend}
use Rattle.index_page.specs.Search.{AllIn, agreement}
use Rattle.index_page.proofs.RowLemmas.{ascends_right}
use Rattle.page_rows.specs.Reading.{rows_in_bytes}
use Rattle.page_rows.specs.Spelling.{PageParts, SpellsRows, IsPageOfRows}
use Rattle.page_rows.proofs.SpellingLemmas.{row_of}
use Rattle.page_search.specs.declared.cut.CutPlace.{CutPlace}
use Rattle.page_search.specs.Agreeing.{AgreesTo, AgreesOr, lesser_match}
use Rattle.page_search.specs.Cuts.{NarrowsRows, FindsCut, IsOnTheWay, LowFigures, UpFigures}
use Rattle.page_search.proofs.AgreeLemmas.{between_agrees, agrees_itself}
use Rattle.page_search.proofs.FigureLemmas.{figures_fit, low_at}
use Rattle.page_search.proofs.NextLemmas.{all_in, place_before_more}
use Rattle.page_search.proofs.SlotLemmas.{reach, reach_step, reach_next, OwnerRow, OutTo, InFrom, between}

-- between two slots the records of those between stand
reach_less : (gs : List Group) (s t : ℕ) → s < t → t ≤ length gs → reach gs s < reach gs t
reach_less [] s t less within = absurd (omega arith)
reach_less (g ∷ gs) s zero less within = absurd (omega arith)
reach_less (g ∷ gs) zero (suc t) less within = omega arith
reach_less (g ∷ gs) (suc s) (suc t) less within = omega (arith, reach_less gs s t (omega arith) (omega arith))

-- a row between two others agrees with the tuple as far as the lesser of their figures says
pub owner_agrees : {bytes : List ℕ} {fields : ℕ} {parts : PageParts} {low middle high : ℕ} {p : KeyPlace → Bool} (tuple : FieldList) (f g : Match)
    → (out : OutTo bytes fields p parts low) → (past : InFrom bytes fields p parts high) → (o : OwnerRow bytes fields parts middle) → low < middle → middle < high → high < length parts.groups
    → LowFigures tuple out.left out.right f → UpFigures tuple past.left past.right g → AgreesTo tuple (parts.of o.here).key (lesser_match f g)
owner_agrees {parts = parts} {low} {middle} {high} tuple f g out past o above below within lows ups =
    let row = row_of parts o.here in
    let P = λ (x : Row). AgreesOr Less tuple f x.key in
    let Q = λ (x : Row). AgreesOr Greater tuple g x.key in
    let first = reach_less parts.groups (suc low) (suc middle) (omega arith) (omega arith) in
    let second = reach_less parts.groups (suc middle) (suc high) (omega arith) (omega arith) in
    let b = between out.left out.right o.left (row ∷ o.right) (sym out.rows ∙ o.rows) (omega (arith, out.count, o.count)) in
    let c = between (o.left ++ row ∷ []) o.right past.left past.right (append_assoc o.left (row ∷ []) o.right ∙ sym o.rows ∙ past.rows) (omega (arith, past.count, o.count, length-append o.left (row ∷ []))) in
    let is_low = each_right P b.middle (row ∷ o.right) (subst (AllByRecursion P) b.is lows.behind) in
    let is_up = each_right Q o.left (row ∷ []) (each_left Q (o.left ++ row ∷ []) c.middle (subst (AllByRecursion Q) c.low ups.before)) in
    between_agrees f g is_low.0 is_up.0 (figures_fit tuple (last_of_rows out.left) f lows.is) (figures_fit tuple (first_of_rows past.right) g ups.is)

-- between neighbouring slots there are few rows
pub narrowed : {bytes : List ℕ} {fields : ℕ} {parts : PageParts} (mode : Mode) (tuple : FieldList) (low high : ℕ) (found : CutPlace) → IsPageOfRows bytes fields
    → RowsAscend (rows_in_bytes bytes fields) → SpellsRows bytes fields parts []
    → (out : OutTo bytes fields (cut_of mode tuple) parts low) → (past : InFrom bytes fields (cut_of mode tuple) parts high) → low + 1 ≡ high → high < length parts.groups
    → HasOrigin bytes parts.mirror (slice_index parts.mirror.slots low) found.before → LowFigures tuple out.left out.right found.low → UpFigures tuple past.left past.right found.up
    → NarrowsRows bytes fields mode tuple found
narrowed {bytes} {fields} {parts} mode tuple low high found page ascend r out past next within placed lows ups =
    let P = λ (x : Row). AgreesOr Less tuple found.low x.key in
    let Q = λ (x : Row). AgreesOr Greater tuple found.up x.key in
    let e : suc low ≡ high = omega arith in
    let count : length past.left + 2 ≡ reach parts.groups (suc (suc low)) = past.count ∙ ap (λ (s : ℕ). reach parts.groups (suc s)) (sym e) in
    let few = reach_next parts.groups (suc low) r.sizes (omega arith) in
    let more = reach_step parts.groups (suc low) (omega arith) in
    let b = between out.left out.right past.left past.right (sym out.rows ∙ past.rows) (omega (arith, out.count, count, more, (r.sizes.each (suc low) (omega (arith, count_sizes parts.groups))).some)) in
    let rows : rows_in_bytes bytes fields ≡ out.left ++ (b.middle ++ past.right) = out.rows ∙ ap (λ (xs : List Row). out.left ++ xs) b.is in
    record {
      left = out.left;
      middle = b.middle;
      right = past.right;
      way = record {
        behind = record {
          page = page;
          ascend = ascends_right out.left (b.middle ++ past.right) (subst RowsAscend rows ascend);
          rows = rows;
          before_is = sym (out.place ∙ placed.placed);
        };
        out = out.out;
        past = past.past;
        low = record { is = lows.is; behind = each_left P b.middle past.right (subst (AllByRecursion P) b.is lows.behind) };
        up = record { is = ups.is; before = each_right Q out.left b.middle (subst (AllByRecursion Q) b.low ups.before) };
      };
      few = omega (arith, b.count, count, out.count, few);
    }

-- the next row is one of those between, where the cut leaves it out
pub row_between : (p : KeyPlace → Bool) (middle right : List Row) (row : Row) (rest : List Row) → middle ++ right ≡ row ∷ rest → AllIn p right → p (At row.key) ≡ false
    → (more : List Row) × (middle ≡ row ∷ more) × (rest ≡ more ++ right)
row_between p [] right row rest e past here =
    let admitted : AllIn p (row ∷ rest) = subst (AllIn p) e past in
    absurd (false≢true (sym here ∙ admitted.0))
row_between p (x ∷ middle) right row rest e past here =
    let tail : middle ++ right ≡ rest = cc in
    let first : x ≡ row = cc in
    (middle, ap (λ (y : Row). y ∷ middle) first, sym tail)

-- the next row agrees with the tuple as far as the lesser of the figures around it says
pub next_agrees : (tuple : FieldList) (middle right : List Row) (row : Row) (rest : List Row) (left : List Row) (f g : Match) → middle ++ right ≡ row ∷ rest
    → LowFigures tuple left middle f → UpFigures tuple middle right g → AgreesTo tuple row.key (lesser_match f g)
next_agrees tuple [] right row rest left f g e lows ups =
    let is : g ≡ matching tuple row.key = ups.is ∙ ap (λ (xs : List Row). agreement tuple (first_of_rows xs)) e in
    subst (λ (m : Match). AgreesTo tuple row.key (lesser_match f m)) (sym is) (agrees_itself tuple row.key f (figures_fit tuple (last_of_rows left) f lows.is))
next_agrees tuple (x ∷ middle) right row rest left f g e lows ups =
    let first : x ≡ row = cc in
    subst (λ (y : Row). AgreesTo tuple y.key (lesser_match f g)) first
    (between_agrees f g lows.behind.0 ups.before.0 (figures_fit tuple (last_of_rows left) f lows.is) (figures_fit tuple (first_of_rows right) g ups.is))

-- the cut, where no rows are left in the middle
pub found_at : {bytes : List ℕ} {fields : ℕ} {mode : Mode} {tuple : FieldList} {found : CutPlace} (left middle right : List Row) → middle ≡ []
    → IsOnTheWay bytes fields mode tuple left middle right found → FindsCut (rows_in_bytes bytes fields) mode tuple found
found_at left middle right none way = record {
  cuts = record {
    left = left;
    right = right;
    split = way.behind.rows ∙ ap (λ (xs : List Row). left ++ (xs ++ right)) none;
    before_is = way.behind.before_is;
    out = way.out;
    past = way.past;
  };
  low = way.low.is;
  up = way.up.is;
}

-- where no row is left at all
pub cut_at_end : {bytes : List ℕ} {fields : ℕ} {mode : Mode} {tuple : FieldList} {found : CutPlace} (left middle right : List Row) → middle ++ right ≡ []
    → IsOnTheWay bytes fields mode tuple left middle right found → FindsCut (rows_in_bytes bytes fields) mode tuple found
cut_at_end left [] right none way = found_at left [] right refl way
cut_at_end left (x ∷ middle) right none way = absurd cc

-- where the cut admits the next row
pub cut_here : {bytes : List ℕ} {fields : ℕ} {mode : Mode} {tuple : FieldList} {found : CutPlace} (left middle right : List Row) (row : Row) (rest : List Row) (f : Match)
    → IsCut (cut_of mode tuple) → middle ++ right ≡ row ∷ rest → cut_of mode tuple (At row.key) ≡ true → f ≡ matching tuple row.key
    → IsOnTheWay bytes fields mode tuple left middle right found → FindsCut (rows_in_bytes bytes fields) mode tuple (record { before = found.before; low = found.low; up = f })
cut_here {mode = mode} {tuple} left middle right row rest f cut shape admitted is way = record {
  cuts = record {
    left = left;
    right = middle ++ right;
    split = way.behind.rows;
    before_is = way.behind.before_is;
    out = way.out;
    past = subst (AllIn (cut_of mode tuple)) (sym shape) (all_in (cut_of mode tuple) cut row rest (subst RowsAscend shape way.behind.ascend) admitted);
  };
  low = way.low.is;
  up = is ∙ ap (λ (xs : List Row). agreement tuple (first_of_rows xs)) (sym shape);
}

-- where it leaves the next row out
pub passed_on : {bytes : List ℕ} {fields : ℕ} {mode : Mode} {tuple : FieldList} {found : CutPlace} (left middle right : List Row) (row : Row) (rest : List Row) (next : ℕ) (f : Match)
    → middle ++ right ≡ row ∷ rest → row.place ≡ next → cut_of mode tuple (At row.key) ≡ false → f ≡ matching tuple row.key → IsOnTheWay bytes fields mode tuple left middle right found
    → (other : Row) × (more : List Row) × (middle ≡ other ∷ more) × IsOnTheWay bytes fields mode tuple (left ++ other ∷ []) more right (record { before = next; low = f; up = found.up })
passed_on {bytes} {fields} {mode} {tuple} {found} left middle right row rest next f shape placed left_out is way =
    let p = cut_of mode tuple in
    let m = row_between p middle right row rest shape way.past left_out in
    let whole : middle ++ right ≡ row ∷ (m.0 ++ right) = shape ∙ ap (λ (xs : List Row). row ∷ xs) m.2 in
    let ascend : RowsAscend (row ∷ (m.0 ++ right)) = subst RowsAscend whole way.behind.ascend in
    let lows = low_at tuple left row (m.0 ++ right) f is ascend in
    let P = λ (x : Row). AgreesOr Less tuple f x.key in
    let Q = λ (x : Row). AgreesOr Greater tuple found.up x.key in
    let ups : AllByRecursion Q (row ∷ m.0) = subst (AllByRecursion Q) m.1 way.up.before in (
      row,
      m.0,
      m.1,
      record {
        behind = record {
          page = way.behind.page;
          ascend = ascend.1;
          rows = way.behind.rows ∙ ap (λ (xs : List Row). left ++ xs) whole ∙ sym (append_assoc left (row ∷ []) (m.0 ++ right));
          before_is = sym (place_before_more left row ∙ placed);
        };
        out = each_append (λ (x : Row). p (At x.key) ≡ false) left (row ∷ []) way.out (left_out, tt);
        past = way.past;
        low = record { is = lows.is; behind = each_left P m.0 right lows.behind };
        up = record { is = way.up.is; before = ups.1 };
      },
    )

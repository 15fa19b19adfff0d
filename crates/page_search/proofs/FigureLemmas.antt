-- How far a tuple agrees with rows behind one, and before one.
use Rattle.std.proofs.Common.{◌≡◌, ◌≤◌, length, true, Option, Some, None, List, [], ◌∷◌, ◌++◌, refl, sym, ap, subst, ◌∙◌, arith, inl, Less, Greater}
use Rattle.std.specs.List.{AllByRecursion}
use Rattle.list_facts.proofs.Each.{each_right, each_all, each_weaker}
use Rattle.list_facts.proofs.Orders.{is_less}
use Rattle.key_tuple.specs.Order.{FieldList, key_cmp}
use Rattle.key_tuple.specs.KeyPlace.{At, before}
use Rattle.key_tuple.specs.Figures.{matching}
use Rattle.key_tuple.specs.declared.mode.Match.{Match}
use Rattle.index_page.specs.Rows.{Row, last_of_rows, last_row_after}
use Rattle.index_page.specs.Page.{RowsAscend}
use Rattle.index_page.specs.Search.{agreement}
use Rattle.page_search.specs.Agreeing.{AgreesOr}
use Rattle.page_search.specs.Cuts.{LowFigures, UpFigures}
use Rattle.page_search.proofs.AgreeLemmas.{FitsField, low_fields, up_fields, matching_fits, fields_within}

agreement_fits : (tuple : FieldList) (row : Option Row) → FitsField tuple (agreement tuple row)
agreement_fits tuple None = omega arith
agreement_fits tuple (Some row) = matching_fits tuple row.key

pub figures_fit : (tuple : FieldList) (row : Option Row) (f : Match) → f ≡ agreement tuple row → FitsField tuple f
figures_fit tuple row f is = subst (FitsField tuple) (sym is) (agreement_fits tuple row)

-- they have no more fields than the tuple
agreement_few : (tuple : FieldList) (row : Option Row) → (agreement tuple row).fields ≤ length tuple
agreement_few tuple None = omega arith
agreement_few tuple (Some row) = fields_within tuple row.key

pub figures_few : (tuple : FieldList) (row : Option Row) (f : Match) → f ≡ agreement tuple row → f.fields ≤ length tuple
figures_few tuple row f is = subst (λ (m : Match). m.fields ≤ length tuple) (sym is) (agreement_few tuple row)

key_less : (j k : FieldList) → before (At j) (At k) ≡ true → key_cmp j k ≡ Less
unfolding before
key_less j k e = is_less _ e

-- the rows behind one, and those before one
rows_above : (tuple : FieldList) (row : Row) (ys : List Row) → RowsAscend (row ∷ ys) → AllByRecursion (λ (x : Row). AgreesOr Less tuple (matching tuple row.key) x.key) ys
rows_above tuple row ys a =
    each_weaker (λ (y : Row). before (At row.key) (At y.key) ≡ true) (λ (x : Row). AgreesOr Less tuple (matching tuple row.key) x.key)
    (λ y b. low_fields tuple row.key y.key (key_less row.key y.key b)) ys a.0

rows_below : (tuple : FieldList) (xs : List Row) (row : Row) (ys : List Row) → RowsAscend (xs ++ row ∷ ys) → AllByRecursion (λ (x : Row). AgreesOr Greater tuple (matching tuple row.key) x.key) xs
rows_below tuple [] row ys a = tt
rows_below tuple (x ∷ xs) row ys a =
    let below = (each_right (λ (z : Row). before (At x.key) (At z.key) ≡ true) xs (row ∷ ys) a.0).0 in
    (up_fields tuple row.key x.key (key_less x.key row.key below), rows_below tuple xs row ys a.1)

last_after : (x : Row) (xs : List Row) (row : Row) → last_row_after x (xs ++ row ∷ []) ≡ row
last_after x [] row = refl
last_after x (y ∷ ys) row = last_after y ys row

last_more : (xs : List Row) (row : Row) → last_of_rows (xs ++ row ∷ []) ≡ Some row
last_more [] row = refl
last_more (x ∷ xs) row = ap Some (last_after x xs row)

-- the figures of a row that the cut leaves out, and of one that it admits
pub low_at : (tuple : FieldList) (xs : List Row) (row : Row) (ys : List Row) (f : Match) → f ≡ matching tuple row.key → RowsAscend (row ∷ ys) → LowFigures tuple (xs ++ row ∷ []) ys f
low_at tuple xs row ys f is ascend = record {
  is = is ∙ ap (agreement tuple) (sym (last_more xs row));
  behind = subst (λ (m : Match). AllByRecursion (λ (x : Row). AgreesOr Less tuple m x.key) ys) (sym is) (rows_above tuple row ys ascend);
}

pub up_at : (tuple : FieldList) (xs : List Row) (row : Row) (ys : List Row) (f : Match) → f ≡ matching tuple row.key → RowsAscend (xs ++ row ∷ ys) → UpFigures tuple xs (row ∷ ys) f
up_at tuple xs row ys f is ascend = record {
  is = is;
  before = subst (λ (m : Match). AllByRecursion (λ (x : Row). AgreesOr Greater tuple m x.key) xs) (sym is) (rows_below tuple xs row ys ascend);
}

-- no figures at all
abbrev pub no_figures : Match
no_figures = record { fields = 0; bytes = 0 }

pub none_low : (tuple : FieldList) (rows : List Row) → LowFigures tuple [] rows no_figures
none_low tuple rows = record {
  is = refl;
  behind = each_all (λ (x : Row). AgreesOr Less tuple no_figures x.key) (λ x. inl (record { fields = omega arith; bytes = omega arith })) rows;
}

pub none_up : (tuple : FieldList) (rows : List Row) → UpFigures tuple rows [] no_figures
none_up tuple rows = record {
  is = refl;
  before = each_all (λ (x : Row). AgreesOr Greater tuple no_figures x.key) (λ x. inl (record { fields = omega arith; bytes = omega arith })) rows;
}

use Rattle.std.proofs.Common.{◌≡◌, ℕ, [], ◌∷◌, length, refl, arith}
use Rattle.key_tuple.specs.Order.{FieldList}
use Rattle.page_search.specs.Judging.{IsFirstField}
use Rattle.page_search.proofs.judging.first_field.Goals as goal

-- a tuple of no fields has no first field
none_first : (tuple : FieldList) (count : ℕ) → count ≡ length tuple → count ≡ 0 → IsFirstField tuple []
none_first [] count counted none = record { is = refl; short = omega arith }
none_first (x ∷ xs) count counted none = absurd (omega (arith, counted, none))

pub returns-then-count-eq0 : goal.returns-then-count-eq0
returns-then-count-eq0 g c = none_first (g.A.Fields.fields_of c.args.tuple.now) c.count.result c.count.ensures c.if-count-eq0.true

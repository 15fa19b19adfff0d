use Rattle.std.proofs.Common.{◌≡◌, ◌<◌, length, [], ◌∷◌, refl, ap, sym, ◌∙◌, arith}
use Rattle.std.specs.Ordering.{nat_cmp, ordering_then}
use Rattle.std.specs.Cmp.Lexicographic.{slice_cmp}
use Rattle.key_tuple.specs.Order.{FieldList, tuple_cmp, key_cmp}
use Rattle.map_history.proofs.answers.stand.Goals as goal

-- a tuple of more fields is compared as a key
tuple_cmp-longer : (t k : FieldList) → length k < length t → tuple_cmp t k ≡ key_cmp t k
tuple_cmp-longer [] k e = absurd (omega arith)
tuple_cmp-longer (t ∷ ts) [] e = refl
tuple_cmp-longer (t ∷ ts) (k ∷ ks) e = ap (ordering_then (slice_cmp nat_cmp t k)) (tuple_cmp-longer ts ks (omega arith))

pub returns-else-count : goal.returns-else-count
returns-else-count c = c.compare_whole.ensures ∙ sym (tuple_cmp-longer c.args.tuple.now.fields c.args.key.now.tuple (omega (arith, c.count.ensures, c.count-2.ensures)))

-- What an ordering tells of a cut.
use Rattle.std.proofs.Common.{◌≡◌, ap, not, Ordering}
use Rattle.std.specs.Ordering.{is_lt, is_gt}
use Rattle.key_tuple.specs.Order.{FieldList, tuple_cmp}
use Rattle.key_tuple.specs.KeyPlace.{At, cut_of, not_below, above}
use Rattle.key_tuple.specs.declared.mode.Mode.{Mode}
use Rattle.key_tuple.specs.declared.mode.Mode.TheVariants.{Ge, G, Le, L}
use Rattle.page_search.specs.Cuts.{admits_at}

pub admits_is : (mode : Mode) (tuple key : FieldList) (order : Ordering) → order ≡ tuple_cmp tuple key → admits_at mode order ≡ cut_of mode tuple (At key)
unfolding not_below above
admits_is Ge tuple key order is = ap (λ (o : Ordering). not (is_gt o)) is
admits_is G tuple key order is = ap is_lt is
admits_is Le tuple key order is = ap is_lt is
admits_is L tuple key order is = ap (λ (o : Ordering). not (is_gt o)) is

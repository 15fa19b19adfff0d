-- What a comparison with a row tells.
use Rattle.std.specs.Prelude.{◌≡◌, ◌<◌, List, ℕ, [], length, slice_index_or}
use Rattle.key_tuple.specs.Order.{FieldList}
use Rattle.key_tuple.specs.KeyPlace.{At, cut_of}
use Rattle.key_tuple.specs.Figures.{matching}
use Rattle.key_tuple.specs.declared.mode.Mode.{Mode}
use Rattle.page_search.specs.declared.judging.Verdict.{Verdict}
use Rattle.page_search.specs.Agreeing.{agreed}

-- the bytes are the tuple's first field, none where it has none
pub record IsFirstField (tuple : FieldList) (first : List ℕ) : Type 0 where
  pub is : first ≡ slice_index_or tuple 0 []
  pub short : length first < 65536

-- whether the mode's cut admits the key, and how far the tuple agrees with it
pub record Judges (mode : Mode) (tuple key : FieldList) (verdict : Verdict) : Type 0 where
  pub admitted : verdict.admitted ≡ cut_of mode tuple (At key)
  pub figures : agreed verdict.figures ≡ matching tuple key

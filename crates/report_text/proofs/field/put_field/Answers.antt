use Rattle.std.proofs.Common.{◌≡◌, ℕ, false, ◌==◌, Result, List, [], ◌∷◌, ◌++◌, length}
use Rattle.std.specs.List.{flat_map}
use Rattle.std.specs.Result.{OnOk}
use Rattle.map_history.specs.Text.{byte_text, field_text}
use Rattle.report_text.proofs.LineLemmas.{Stays-at_exit}
use Rattle.report_text.proofs.field.put_field.Goals as goal

-- a field that has bytes is written by them
some_text : {T E : Type 0} (r : Result T E) (bytes old new : List ℕ) → false ≡ (length bytes == 0) → OnOk r (new ≡ old ++ flat_map byte_text bytes) → OnOk r (new ≡ old ++ field_text bytes)
some_text r [] old new some h = absurd (cc some)
some_text r (b ∷ bytes) old new some h = h

pub returns-in_err-push-clause-err : goal.returns-in_err-push-clause-err
returns-in_err-push-clause-err c = Stays-at_exit _ _ _ c.in_err-push.ensures.items

pub returns-clause-ok : goal.returns-clause-ok
returns-clause-ok c = some_text _ _ _ _ (c.if-is_empty.ensures) c.put_bytes.ensures.ok

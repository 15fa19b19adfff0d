-- The place among the names' bytes is that among the names.
use Rattle.std.proofs.Common.{sym, ◌∙◌, string_bytes}
use Rattle.std.specs.Str.{bytes_eq}
use Rattle.script.proofs.Places.{position-map}
use Rattle.script.proofs.names.find_name.Goals as goal

pub returns : goal.returns
returns c = c.place_of.ensures ∙ sym (position-map string_bytes (λ known. bytes_eq known c.args.name.now) c.args.names.now)

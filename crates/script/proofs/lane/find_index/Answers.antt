use Rattle.std.proofs.Common.{ℕ, List, [], length, map, sym, ap, string_bytes, arith}
use Rattle.std.proofs.lemmas.List.{length-map}
use Rattle.std.proofs.lemmas.List.Quantifiers.{position-Some}
use Rattle.std.specs.Str.{bytes_eq}
use Rattle.script.proofs.lane.find_index.Goals as goal

pub returns-in-Some-clause-known : goal.returns-in-Some-clause-known
returns-in-Some-clause-known c =
    let names = c.deref.result.now in
    let inside = (position-Some (λ (known : List ℕ). bytes_eq known c.args.name.now) (map string_bytes names) c.in-Some.index [] (sym c.in-Some.ensures)).0 in
    omega (arith, inside, length-map names string_bytes, ap length c.deref.ensures.value)

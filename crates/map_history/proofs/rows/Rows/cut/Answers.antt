use Rattle.std.proofs.Common.{◌≡◌, ◌≤◌, ◌∷◌, ◌∙◌, ap, sym, take, get_or, length, arith}
use Rattle.std.proofs.lemmas.List.{take_all}
use Rattle.map_history.specs.Map.{Map}
use Rattle.map_history.proofs.RowsLemmas.{AreRows-take, rows-take, length-rows}
use Rattle.map_history.proofs.rows.Rows.cut.Goals as goal

below : (c : goal.After-truncate-then-count-len) → c.args.count ≤ length c.self.inside.ends.items
below c = omega (arith, c.len.ensures, c.self.inside.ends.ok.0)

end_is : (c : goal.After-truncate-then-count-len) → c.start_of-end.result ≡ get_or (0 ∷ c.self.inside.ends.items) c.args.count 0
end_is c = c.start_of-end.ensures ∙ ap (λ ends. get_or (0 ∷ ends) c.args.count 0) c.deref.ensures.value

pub invariant_of-self : goal.invariant_of-self
invariant_of-self c =
    rw (c.truncate-then-count-len.ensures.items, c.truncate.ensures, end_is c) (AreRows-take c.self.inside.parts c.self.inside.ends.items c.args.count c.self.invariant (below c))

pub returns-then-count-len : goal.returns-then-count-len
returns-then-count-len c =
    rw (c.truncate-then-count-len.ensures.items, c.truncate.ensures, end_is c)
    (rows-take c.self.inside.parts c.self.inside.ends.items c.args.count c.self.invariant (below c) ∙ ap (λ (m : Map). take c.args.count m) c.self.view_is)

pub returns-else-count-len : goal.returns-else-count-len
returns-else-count-len c =
    let view = ap (λ (m : Map). length m) c.self.view_is in
    let many = length-rows c.self.inside.parts c.self.inside.ends.items in
    sym (take_all c.args.count c.args.self.now (omega (arith, c.len.ensures, c.self.inside.ends.ok.0)))

use Rattle.std.proofs.Common.{map, set, ap, ◌∙◌, List, length, arith}
use Rattle.std.proofs.lemmas.List.{map-set, length-map}
use Rattle.index_page.specs.Store.{Content}
use Rattle.index_page.specs.Slots.{content_in, no_content}
use Rattle.index_page.proofs.SlotLemmas.{blank_put}
use Rattle.index_page.proofs.records.Records.blank.Goals as goal

pub invariant_of-self : goal.invariant_of-self
invariant_of-self c = blank_put c.self.inside.bytes.items c.self.inside.slots.items c.blank.result c.self.invariant (c.blank.ensures.is c.self.inside.bytes.items) c.blank.ensures.nowhere c.args.number

pub returns : goal.returns
returns c =
    let bytes = c.self.inside.bytes.items in
    let says = c.blank.ensures.says bytes in
    let view = c.self.view_is in
    c.leave.ensures ∙ map-set (content_in bytes) c.self.inside.slots.items c.args.number c.blank.result ∙ ap (λ (x : Content). set (map (content_in bytes) c.self.inside.slots.items) c.args.number x) says ∙ ap (λ (xs : List Content). set xs c.args.number no_content) view

pub index_mut-requires : goal.index_mut-requires
index_mut-requires c =
    omega (arith, c.requires, ap length c.self.view_is, length-map c.self.inside.slots.items (content_in c.self.inside.bytes.items), c.self.inside.slots.ok.0)

pub index-slot-requires : goal.index-slot-requires
index-slot-requires c =
    omega (arith, c.requires, ap length c.self.view_is, length-map c.self.inside.slots.items (content_in c.self.inside.bytes.items), c.self.inside.slots.ok.0)

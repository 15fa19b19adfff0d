use Rattle.std.proofs.Common.{arith, ℕ, ◌<◌, ◌∙◌, sym, subst, slice_index}
use Rattle.page_directory.proofs.OwnerLemmas.{slots_counted, group_owns}
use Rattle.page_directory.proofs.owners.owned.Goals as goal

pub owns-requires : goal.owns-requires
owns-requires c =
    let r = c.requires in (
      r.0,
      slice_index r.0.slots c.args.slot,
      c.slot_owner.ensures r.0 r.3.is (omega (arith, slots_counted r.3.groups, r.4)),
    )

pub returns : goal.returns
returns c = λ m gs free r w.
    c.owns.ensures m (slice_index m.slots c.args.slot) (c.slot_owner.ensures m r.is (omega (arith, slots_counted r.groups)))
    ∙ group_owns c.args.slot r.groups w

pub slot_owner-requires : goal.slot_owner-requires
slot_owner-requires c =
    let r = c.requires in
    (r.0, r.3.is, subst (λ (n : ℕ). c.args.slot < n) (sym (slots_counted r.3.groups)) r.4)

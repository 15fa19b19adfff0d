use Rattle.std.proofs.Common.{ℕ, List, length, refl, subst}
use Rattle.page_mirror.specs.Mirror.{Mirror}
use Rattle.page_mirror.specs.Steps.{HasOrigin}
use Rattle.page_mirror.proofs.HeadLemmas.{still}
use Rattle.page_directory.specs.Groups.{Group, owners}
use Rattle.page_directory.specs.Owners.{IsOwnerOf}
use Rattle.page_list.specs.Leaving.{Between, CanLeave, IsPassedOver, linked_out, groups_around}
use Rattle.page_list.proofs.AroundLemmas.{group_around, of_group}
use Rattle.page_list.proofs.MendLemmas.{short_slot}
use Rattle.page_list.proofs.LeaveLemmas.{record_here, leaves}
use Rattle.page_list.proofs.leaving.leave_list.Goals as goal
use Rattle.page_list.proofs.leaving.leave_list.Goals.{After-find_owner-owner, After-find_previous-before}

pub find_owner-owner-requires : goal.find_owner-owner-requires
find_owner-owner-requires c = let r = c.requires in let w = group_around r.4 in
    (r.0, r.1, r.2, length w.early, r.3.here, record_here w r.4)

-- the owner of the record's group was found
owner : (c : After-find_owner-owner) {m : Mirror} {gs : List Group} {free : List ℕ} {b : Between}
    (can : CanLeave c.args.page.now m gs free b c.args.at)
    → IsOwnerOf c.args.page.now m gs free (length (group_around can).early)
    c.find_owner-owner.result
owner c can = c.find_owner-owner.ensures _ _ _ _ _ (record_here (group_around can) can)

pub find_slot-slot-requires : goal.find_slot-slot-requires
find_slot-slot-requires c = let r = c.requires in (
  r.0,
  r.1,
  r.2,
  length (group_around r.4).early,
  owner (goal.at.find_slot-slot-requires c).After-find_owner-owner r.4,
)

pub find_previous-before-requires : goal.find_previous-before-requires
find_previous-before-requires c = let r = c.requires in
    let owner = owner (goal.at.find_previous-before-requires c).After-find_owner-owner r.4 in (
      r.0,
      r.1,
      r.2,
      r.3,
      group_around r.4,
      record { can = r.4; slot_is = c.find_slot-slot.ensures _ _ _ _ owner },
    )

-- so were its slot and the record before
found : (c : After-find_previous-before) {m : Mirror} {gs : List Group} {free : List ℕ}
    {b : Between} (can : CanLeave c.args.page.now m gs free b c.args.at)
    → IsOwnerOf c.args.page.now m gs free (length (group_around can).early)
    c.find_owner-owner.result
    → IsPassedOver c.args.page.now m gs free b (group_around can) c.find_previous-before.result
    c.args.at c.find_owner-owner.result c.find_slot-slot.result
found c {m} {gs} {free} {b} can owner =
    let w = group_around can in let slot_is = c.find_slot-slot.ensures _ _ _ _ owner in
    record {
      around = record { can = can; slot_is = slot_is };
      before_at = c.find_previous-before.ensures m gs free b w
          (record { can = can; slot_is = slot_is });
      owner_at = subst (λ (k : ℕ). HasOrigin c.args.page.now m k c.find_owner-owner.result)
          (of_group w can).owner_is owner.owner;
    }

pub pass_over-requires : goal.pass_over-requires
pass_over-requires c = let at = goal.at.pass_over-requires c in let r = c.requires in (
  r.0,
  r.1,
  r.2,
  r.3,
  group_around r.4,
  found at.After-find_previous-before r.4 (owner at.After-find_owner-owner r.4),
)

pub mend_slot-requires : goal.mend_slot-requires
mend_slot-requires c = let at = goal.at.mend_slot-requires c in let r = c.requires in
    let found = found at.After-find_previous-before r.4 (owner at.After-find_owner-owner r.4) in
    let w = group_around r.4 in let l = c.pass_over.ensures _ _ _ _ _ found in
    let hs = groups_around r.1 r.3 w l.group in
    (linked_out r.0 r.3 l.owned (owners hs), hs, r.2, short_slot w r.4 found.around.slot_is l)

pub own-requires-clause-there : goal.own-requires-clause-there
own-requires-clause-there c = let at = goal.at.own-requires-clause-there c in
    let can = c.requires.4 in
    let found = found at.After-find_previous-before can (owner at.After-find_owner-owner can) in
    let l = c.pass_over.ensures _ _ _ _ _ found in
    let r = c.mend_slot.ensures _ _ _ (short_slot (group_around can) can found.around.slot_is l) in
    let m = linked_out c.requires.0 c.requires.3 r.0 (owners r.1) in
    (m, c.requires.3.here, still {n = m} can.here_at r.2.page.is refl refl)

pub returns : goal.returns
returns c m gs free b can = let at = goal.at.returns c in
    let found = found at.After-find_previous-before can (owner at.After-find_owner-owner can) in
    let w = group_around can in let l = c.pass_over.ensures _ _ _ _ _ found in
    let slot_is = found.around.slot_is in
    let r = c.mend_slot.ensures _ _ _ (short_slot w can slot_is l) in
    let n = linked_out m b r.0 (owners r.1) in
    leaves c.find_slot-slot.result w can slot_is l r
    (c.own.ensures n b.here (still {n = n} can.here_at r.2.page.is refl refl))

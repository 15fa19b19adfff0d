use Rattle.std.proofs.Common.{◌∙◌, length, arith}
use Rattle.page_list.specs.Entering.{linked_in, owned_with, groups_with}
use Rattle.page_list.proofs.EnterLemmas.{group_at}
use Rattle.page_list.proofs.SlotSizeLemmas.{record_behind, gap_owner, can_split, entered_split, entered_whole}
use Rattle.page_list.proofs.entering.enter_list.Goals as goal

pub find_owner-owner-requires : goal.find_owner-owner-requires
find_owner-owner-requires c =
    let r = c.requires in
    let h = r.4.gap in
    let w = group_at h in
    (r.0, r.1, r.2, length w.early, r.3.n, record_behind w c.next_of-next.result h (c.next_of-next.ensures r.0 r.3.p h.before_at))

pub find_slot-slot-requires : goal.find_slot-slot-requires
find_slot-slot-requires c =
    let r = c.requires in
    let h = r.4.gap in
    let w = group_at h in
    let behind = record_behind w c.next_of-next.result h (c.next_of-next.ensures r.0 r.3.p h.before_at) in
    (r.0, r.1, r.2, length w.early, c.find_owner-owner.ensures r.0 r.1 r.2 (length w.early) r.3.n behind)

pub owns-count-requires : goal.owns-count-requires
owns-count-requires c =
    let r = c.requires in
    let h = r.4.gap in
    let w = group_at h in
    let behind = record_behind w c.next_of-next.result h (c.next_of-next.ensures r.0 r.3.p h.before_at) in
    let gap = gap_owner w h (c.find_owner-owner.ensures r.0 r.1 r.2 (length w.early) r.3.n behind) in
    (r.0, w.owner, gap.owner_at)

pub link_between-requires : goal.link_between-requires
link_between-requires c =
    let r = c.requires in
    let h = r.4.gap in
    let w = group_at h in
    let behind = record_behind w c.next_of-next.result h (c.next_of-next.ensures r.0 r.3.p h.before_at) in
    (r.0, r.1, r.2, r.3, w, gap_owner w h (c.find_owner-owner.ensures r.0 r.1 r.2 (length w.early) r.3.n behind))

pub split_slot-requires : goal.split_slot-requires
split_slot-requires c =
    let r = c.requires in
    let h = r.4.gap in
    let w = group_at h in
    let behind = record_behind w c.next_of-next.result h (c.next_of-next.ensures r.0 r.3.p h.before_at) in
    let owner = c.find_owner-owner.ensures r.0 r.1 r.2 (length w.early) r.3.n behind in
    let gap = gap_owner w h owner in
    let count = c.owns-count.ensures r.0 w.owner gap.owner_at in
    let slot = c.find_slot-slot.ensures r.0 r.1 r.2 (length w.early) owner in (
      linked_in r.0 r.3 (owned_with r.0 r.1 r.3 w) r.0.slots,
      groups_with r.1 r.3 w,
      r.2,
      can_split w r.4 (omega (arith, count)) slot (c.link_between.ensures r.0 r.1 r.2 r.3 w gap),
    )

pub returns-then-count-eq8 : goal.returns-then-count-eq8
returns-then-count-eq8 c = λ m gs free g e.
    let h = e.gap in
    let w = group_at h in
    let behind = record_behind w c.next_of-next.result h (c.next_of-next.ensures m g.p h.before_at) in
    let owner = c.find_owner-owner.ensures m gs free (length w.early) g.n behind in
    let gap = gap_owner w h owner in
    let count = c.owns-count.ensures m w.owner gap.owner_at in
    let slot = c.find_slot-slot.ensures m gs free (length w.early) owner in
    let linked = c.link_between.ensures m gs free g w gap in
    entered_split w linked
    (c.split_slot.ensures (linked_in m g (owned_with m gs g w) m.slots) (groups_with gs g w) free (can_split w e (omega (arith, count)) slot linked))

pub link_between-requires-else-count-eq8 : goal.link_between-requires-else-count-eq8
link_between-requires-else-count-eq8 c =
    let r = c.requires in
    let h = r.4.gap in
    let w = group_at h in
    let behind = record_behind w c.next_of-next.result h (c.next_of-next.ensures r.0 r.3.p h.before_at) in
    (r.0, r.1, r.2, r.3, w, gap_owner w h (c.find_owner-owner.ensures r.0 r.1 r.2 (length w.early) r.3.n behind))

pub returns-else-count-eq8 : goal.returns-else-count-eq8
returns-else-count-eq8 c = λ m gs free g e.
    let h = e.gap in
    let w = group_at h in
    let behind = record_behind w c.next_of-next.result h (c.next_of-next.ensures m g.p h.before_at) in
    let owner = c.find_owner-owner.ensures m gs free (length w.early) g.n behind in
    let gap = gap_owner w h owner in
    let count = c.owns-count.ensures m w.owner gap.owner_at in
    let other = c.if-count-eq8.false in
    entered_whole w e (λ x. other (count ∙ x)) (c.link_between-else-count-eq8.ensures m gs free g w gap)

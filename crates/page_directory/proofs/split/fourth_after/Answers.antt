use Rattle.page_directory.proofs.split.fourth_after.Goals as goal

pub next_of-second-requires : goal.next_of-second-requires
next_of-second-requires c = let r = c.requires in (r.0, r.0.next r.1, c.next_of-first.ensures r.0 r.1 r.2)

pub next_of-third-requires : goal.next_of-third-requires
next_of-third-requires c =
    let r = c.requires in
    let first = c.next_of-first.ensures r.0 r.1 r.2 in (
      r.0,
      r.0.next (r.0.next r.1),
      c.next_of-second.ensures r.0 (r.0.next r.1) first,
    )

pub next_of-requires : goal.next_of-requires
next_of-requires c =
    let r = c.requires in
    let first = c.next_of-first.ensures r.0 r.1 r.2 in
    let second = c.next_of-second.ensures r.0 (r.0.next r.1) first in (
      r.0,
      r.0.next (r.0.next (r.0.next r.1)),
      c.next_of-third.ensures r.0 (r.0.next (r.0.next r.1)) second,
    )

pub returns : goal.returns
returns c = λ m h r.
    let first = c.next_of-first.ensures m h r in
    let second = c.next_of-second.ensures m (m.next h) first in
    let third = c.next_of-third.ensures m (m.next (m.next h)) second in
    c.next_of.ensures m (m.next (m.next (m.next h))) third

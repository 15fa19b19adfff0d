use Rattle.std.proofs.Common.{sym, ap, subst, IsSome, List}
use Rattle.index_page.specs.Rows.{Row, find_row}
use Rattle.index_page.specs.Changes.{NextIs}
use Rattle.page_rows.proofs.SpellingLemmas.{found_in, next_is}
use Rattle.byte_page.specs.Form.{GappedPage}
use Rattle.byte_page.proofs.page.BytePage.next.Goals as goal

pub next_of-requires : goal.next_of-requires
next_of-requires c =
    let page = c.self.invariant.rows in
    let there = subst (λ (rows : List Row). IsSome (find_row c.args.place rows)) (sym (ap (λ (f : GappedPage). f.page.rows) c.self.view_is)) c.requires in
    let found = found_in c.args.place page there in
    (page.parts.mirror, found.listed.here, rw c.deref.ensures.value found.at)

pub returns : goal.returns
returns c =
    let page = c.self.invariant.rows in
    let same = ap (λ (f : GappedPage). f.page.rows) c.self.view_is in
    let there = subst (λ (rows : List Row). IsSome (find_row c.args.place rows)) (sym same) c.requires in
    let found = found_in c.args.place page there in
    let at = c.next_of.ensures page.parts.mirror found.listed.here (rw c.deref.ensures.value found.at) in
    let next = next_is c.args.place c.next_of.result page.spells found.listed (sym at.placed) in
    subst (λ (rows : List Row). NextIs rows c.args.place c.row_place.result) same (rw c.row_place.ensures next)

use Rattle.std.proofs.Common.{◌≡◌, length, Some, None, sym, subst, ◌∙◌, refl}
use Rattle.std.specs.Prelude.{IfSome}
use Rattle.clock_law.specs.ModifyClock.{HasKeyAt}
use Rattle.index_page.specs.Page.{PageRows}
use Rattle.tree_cursor.specs.Starts.{place_of, BeginsAt}
use Rattle.tree_cursor.proofs.ReadLemmas.{found_paged, page_is, fields_are, kept_key}
use Rattle.tree_cursor.proofs.pieces.PieceCall.start.Goals as goal

pub unreachable-requires : goal.unreachable-requires
unreachable-requires g c =
    let none : None ≡ Some c.requires.stand.1.holds.is.page =
    sym c.in_default.is
    ∙ found_paged c.args.pass.now c.requires.known c.args.block c.args.self.now.index
    c.requires.stand.1.holds c.frame-found.result.now c.frame-found.ensures in cc

pub start_on-requires-clause-fields : goal.start_on-requires-clause-fields
start_on-requires-clause-fields g c =
    let h = c.requires.stand.1.holds in
    let same = page_is c.args.pass.now c.requires.known c.args.block c.args.self.now.index h
    c.frame-found.result.now c.frame-found.ensures c.in-Some.page c.in-Some.is in
    subst (λ (x : PageRows). length c.args.cursor.now.key.tuple ≡ x.head.fields) (sym same)
    (c.requires.stand.1.fields
    ∙ sym (fields_are c.args.pass.now c.requires.known c.args.block c.args.self.now.index h
    c.frame-found.result.now c.frame-found.ensures))

pub start_on-requires-clause-key : goal.start_on-requires-clause-key
start_on-requires-clause-key g c = λ kept.
    let h = c.requires.stand.1.holds in
    let same = page_is c.args.pass.now c.requires.known c.args.block c.args.self.now.index h
    c.frame-found.result.now c.frame-found.ensures c.in-Some.page c.in-Some.is in
    let as_kept = c.is_as_kept.ensures kept in
    subst
    (λ (x : PageRows). IfSome c.args.cursor.now.place
    (λ place. HasKeyAt x.rows place c.args.cursor.now.key.tuple)) (sym same)
    (kept_key c.args.pass.now c.requires.known c.args.block c.args.self.now.index h
    c.frame-found.result.now c.frame-found.ensures c.args.cursor.now c.requires.stand.0
    c.requires.stand.1 refl refl as_kept.0 as_kept.1 as_kept.2)

pub returns : goal.returns
returns g c = λ h.
    let same = page_is c.args.pass.now c.requires.known c.args.block c.args.self.now.index h
    c.frame-found.result.now c.frame-found.ensures c.in-Some.page c.in-Some.is in
    subst (λ (x : PageRows). BeginsAt x.rows (place_of c.args.cursor.now) c.start_on.result) same
    c.start_on.ensures

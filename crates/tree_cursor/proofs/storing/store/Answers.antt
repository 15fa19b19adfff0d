use Rattle.std.proofs.Common.{◌≡◌, ap, sym, ◌∙◌}
use Rattle.index_page.specs.declared.head.PageHead.{PageHead}
use Rattle.forest_law.specs.declared.objects.Frame.{Frame}
use Rattle.buffer_pool.proofs.CallLemmas.{frame_has}
use Rattle.tree_cursor.proofs.StoreLemmas.{read_some, read_ends, read_stand, read_stores}
use Rattle.tree_cursor.proofs.storing.store.Goals as goal

pub frame-found-requires-clause-held : goal.frame-found-requires-clause-held
frame-found-requires-clause-held c = let leaf = c.requires.leaf.holds in (
  leaf.frame,
  leaf.frame,
  frame_has c.args.pass.now c.requires.known c.args.block leaf.frame leaf.knows,
)

pub unreachable-requires : goal.unreachable-requires
unreachable-requires c = let leaf = c.requires.leaf.holds in
    let same : c.frame-found.result.now ≡ leaf.frame =
    c.frame-found.ensures leaf.frame leaf.frame
    (frame_has c.args.pass.now c.requires.known c.args.block leaf.frame leaf.knows) in
    c.in_default.not-Some leaf.is.page (ap (λ (f : Frame). f.page) same ∙ leaf.is.paged)

pub key_at-requires-clause-some : goal.key_at-requires-clause-some
key_at-requires-clause-some c = let leaf = c.requires.leaf.holds in
    read_some c.args.pass.now c.fits.ensures c.args.block c.requires.leaf.index leaf
    c.frame-found.result.now c.in-Some.page
    (c.frame-found.ensures leaf.frame leaf.frame
    (frame_has c.args.pass.now c.requires.known c.args.block leaf.frame leaf.knows)) c.in-Some.is

pub key_at-requires-clause-stand : goal.key_at-requires-clause-stand
key_at-requires-clause-stand c = let leaf = c.requires.leaf.holds in
    read_stand c.args.pass.now c.fits.ensures c.args.block c.requires.leaf.index leaf
    c.frame-found.result.now c.in-Some.page
    (c.frame-found.ensures leaf.frame leaf.frame
    (frame_has c.args.pass.now c.requires.known c.args.block leaf.frame leaf.knows)) c.in-Some.is
    c.args.place c.requires.leaf.stand

pub key_at-requires-clause-high : goal.key_at-requires-clause-high
key_at-requires-clause-high c = let leaf = c.requires.leaf.holds in
    read_ends c.args.pass.now c.fits.ensures c.args.block c.requires.leaf.index leaf
    c.frame-found.result.now c.in-Some.page
    (c.frame-found.ensures leaf.frame leaf.frame
    (frame_has c.args.pass.now c.requires.known c.args.block leaf.frame leaf.knows)) c.in-Some.is

pub returns : goal.returns
returns c = λ i h. let found = c.in_ok-key.ensures in
    read_stores c.args.pass.now c.fits.ensures c.args.block i h c.frame-found.result.now
    c.in-Some.page
    (c.frame-found.ensures h.frame h.frame
    (frame_has c.args.pass.now c.requires.known c.args.block h.frame h.knows)) c.in-Some.is
    c.head.result.now.number c.args.place c.in_ok-key.key
    (ap (λ (z : PageHead). z.number) (sym c.head.ensures)) found.key found.fields found.room

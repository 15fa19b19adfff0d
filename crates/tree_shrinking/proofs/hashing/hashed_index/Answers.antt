use Rattle.std.proofs.Common.{sym, ap, ◌∙◌}
use Rattle.hash_upkeep.specs.Moves.{built_or}
use Rattle.forest_law.specs.declared.objects.Frame.{Frame}
use Rattle.buffer_pool.proofs.CallLemmas.{frame_has}
use Rattle.tree_shrinking.proofs.hashing.hashed_index.Goals as goal

pub frame-requires-clause-held : goal.frame-requires-clause-held
frame-requires-clause-held c = let f = c.requires.from in
    (f.0, f.0, frame_has c.args.pass.now c.requires.known c.args.from f.0 f.1)

pub frame-requires-2-clause-held : goal.frame-requires-2-clause-held
frame-requires-2-clause-held c = let f = c.requires.to in
    (f.0, f.0, frame_has c.args.pass.now c.requires.known c.args.to f.0 f.1)

pub returns-in-Some : goal.returns-in-Some
returns-in-Some c f g one two = let p = c.args.pass.now in
    let first = ap (λ (z : Frame). z.hashed)
    (sym (c.frame.ensures f f (frame_has p c.requires.known c.args.from f one))) ∙ c.in-Some.is in
    sym (λ i. built_or (first i) g.hashed)

pub returns-in-None : goal.returns-in-None
returns-in-None c f g one two = let p = c.args.pass.now in
    let first = ap (λ (z : Frame). z.hashed)
    (sym (c.frame.ensures f f (frame_has p c.requires.known c.args.from f one))) ∙ c.in-None.is in
    ap (λ (z : Frame). z.hashed)
    (c.frame-2.ensures g g (frame_has p c.requires.known c.args.to g two))
    ∙ sym (λ i. built_or (first i) g.hashed)

-- What is noted stands behind the others.
use Rattle.std.proofs.Common.{[], ◌∷◌, ◌++◌, length, map, ap, ◌∙◌, arith}
use Rattle.std.proofs.lemmas.List.{length-map, map-append}
use Rattle.change_log.specs.Log.{Log, note_of}
use Rattle.change_log.proofs.lane_log.LaneLog.note.Goals as goal

pub returns-clause-noted : goal.returns-clause-noted
returns-clause-noted c =
    ap (map note_of) c.push_reserved.ensures.items ∙ map-append note_of c.self.inside.noted.items (c.args.change ∷ []) ∙ ap (λ (log : Log). log.noted ++ note_of c.args.change ∷ []) c.self.view_is

pub push_reserved-requires : goal.push_reserved-requires
push_reserved-requires c =
    let noted = c.self.inside.noted in
    let seen = ap (λ (log : Log). length log.noted) c.self.view_is in
    omega (arith, c.requires, noted.ok.0, length-map noted.items note_of, seen, ap (λ (log : Log). log.room) c.self.view_is)

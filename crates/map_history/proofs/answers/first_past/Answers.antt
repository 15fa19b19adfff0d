use Rattle.std.proofs.Common.{◌≡◌, Bool, true, false, cond, Some, ◌∷◌, map, sym, ap, ◌∙◌}
use Rattle.key_tuple.specs.KeyPlace.{KeyPlace, At, cut_of}
use Rattle.map_history.specs.Map.{Map, Pair}
use Rattle.map_history.specs.Pairs.{pair_of, pair_by}
use Rattle.map_history.specs.Reply.{first_after}
use Rattle.map_history.proofs.answers.first_past.Goals as goal

stays_behind : (p : KeyPlace → Bool) (row : Pair) (rows : Map) → false ≡ p (At row.key) → first_after p (row ∷ rows) ≡ first_after p rows
stays_behind p row rows behind = ap (λ (b : Bool). cond b (Some row) (first_after p rows)) (sym behind)

is_first : (p : KeyPlace → Bool) (row : Pair) (rows : Map) → true ≡ p (At row.key) → first_after p (row ∷ rows) ≡ Some row
is_first p row rows past = ap (λ (b : Bool). cond b (Some row) (first_after p rows)) (sym past)

pub loop-key-preserved : goal.loop-key-preserved
loop-key-preserved c =
    let cut = cut_of c.args.mode c.args.tuple.now.fields in
    c.loop-key.invariant ∙ ap (λ rows. first_after cut (map pair_of rows)) c.in-Some.ensures.steps
    ∙ stays_behind cut (pair_by (c.in-Some.key, c.in-Some.value)) (map pair_of c.next.new.self) c.if-is_past.ensures

pub returns-then-is_past : goal.returns-then-is_past
returns-then-is_past c =
    let cut = cut_of c.args.mode c.args.tuple.now.fields in
    sym (c.loop-key.invariant ∙ ap (λ rows. first_after cut (map pair_of rows)) c.in-Some.ensures.steps
    ∙ is_first cut (pair_by (c.in-Some.key, c.in-Some.value)) (map pair_of c.next.new.self) c.if-is_past.ensures)

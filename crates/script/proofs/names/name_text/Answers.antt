-- Each byte of the name is one character of the text.
use Rattle.std.proofs.Common.{ℕ, ◌<◌, List, [], ◌∷◌, ◌++◌, length, take, sym, ap, ◌∙◌, string_bytes, arith}
use Rattle.std.proofs.lemmas.List.{take_all, take_more}
use Rattle.std.proofs.lemmas.List.Elements.{All-get_or}
use Rattle.script.proofs.names.name_text.Goals as goal

pub loop-byte-preserved : goal.loop-byte-preserved
loop-byte-preserved c =
    let name = c.args.name.now in
    let i = c.loop-byte.byte-index in
    let below : i < length name = omega (arith, c.loop-byte-test.true) in
    let small : c.from.result < 128 = omega (arith, c.from.ensures, All-get_or (λ (b : ℕ). b < 128) name i 0 below c.requires) in
    c.in_ok-push.ensures.bytes ∙ ap (λ (bs : List ℕ). string_bytes c.loop-byte.text ++ bs) (c.in_ok-push.ensures.ascii small)
    ∙ ap (λ (bs : List ℕ). bs ++ c.from.result ∷ []) c.loop-byte.invariant ∙ ap (λ (b : ℕ). take i name ++ b ∷ []) c.from.ensures ∙ sym (take_more name i 0 below)

pub returns : goal.returns
returns c = c.loop-byte.invariant ∙ take_all c.loop-byte.byte-index c.args.name.now (omega (arith, c.loop-byte-test.false))

use Rattle.std.proofs.Common.{◌≡◌, ℕ, ◌+◌, ◌-◌, ◌≤◌, ◌++◌, List, length, take, drop, ap, ◌∙◌, arith, length-append, length-take, length-drop}
use Rattle.std.proofs.lemmas.List.{drop-drop, take-append-le, take_all}
use Rattle.index_page.proofs.rewriting.put_bytes.Goals as goal

-- the bytes with a part written over, and cut to their length
put_over : (xs ys part new : List ℕ) (len at count : ℕ) → xs ≡ ys → new ≡ part → count ≡ length part → len ≡ length ys → at + length part ≤ length ys
    → take len ((take at xs ++ (new ++ drop count (drop at xs))) ++ drop (length (take at xs ++ (new ++ drop count (drop at xs)))) ys) ≡ take at ys ++ (part ++ drop (at + length part) ys)
put_over xs ys part new len at count same is counted long room =
    let behind : drop count (drop at xs) ≡ drop (at + length part) ys = (λ i. drop (counted i) (drop at (same i))) ∙ drop-drop (length part) at ys in
    let whole = take at ys ++ (part ++ drop (at + length part) ys) in
    let over : take at xs ++ (new ++ drop count (drop at xs)) ≡ whole = (λ i. take at (same i) ++ (is i ++ behind i)) in
    let size : length whole ≡ length ys = omega (arith, room, length-append (take at ys) (part ++ drop (at + length part) ys), length-append part (drop (at + length part) ys), length-take at ys, length-drop (at + length part) ys) in
    ap (λ (zs : List ℕ). take len (zs ++ drop (length zs) ys)) over ∙ take-append-le len whole (drop (length whole) ys) (omega (arith, long, size)) ∙ take_all len whole (omega (arith, long, size))

pub returns : goal.returns
returns c =
    let bytes = c.args.bytes.now in
    let part = c.args.part.now in
    put_over c.deref_mut.result.now bytes.items part c.copy_from_slice.new.self bytes.len c.args.at ((c.args.at + length part) - c.args.at) c.deref_mut.ensures.value c.copy_from_slice.ensures.after (omega arith) (omega (arith, bytes.ok.0)) c.requires

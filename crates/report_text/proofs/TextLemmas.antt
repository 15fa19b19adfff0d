-- One text more in a buffer.
use Rattle.std.proofs.Common.{◌≡◌, ℕ, ◌+◌, Option, Some, None, IsSome, IfSome, List, [], ◌∷◌, ◌++◌, length, take, ap, ◌∙◌, sym, subst, arith, length-append}
use Rattle.std.proofs.lemmas.List.{take_at}
use Rattle.key_tuple.specs.Parts.{parts, RiseTo}
use Rattle.key_tuple.proofs.PartsLemmas.{parts-push, RiseTo-push}
use Rattle.map_history.specs.Report.{Answer}
use Rattle.map_history.specs.Spelling.{answer_text}

-- the ends still rise to the end of the bytes
pub rises_after : (line : ℕ) (o : Option Answer) (bytes more ends ends' : List ℕ) (n : ℕ) → IsSome o → IfSome o (λ a. more ≡ bytes ++ answer_text line a) → ends' ≡ ends ++ n ∷ [] → n ≡ length more → RiseTo 0 ends (length bytes) → RiseTo 0 ends' (length more)
rises_after line None bytes more ends ends' n some added pushed is_end rises = absurd (cc some)
rises_after line (Some a) bytes more ends ends' n some added pushed is_end rises =
    let size : length more ≡ length bytes + length (answer_text line a) = ap length added ∙ length-append bytes (answer_text line a) in
    subst (λ es. RiseTo 0 es (length more)) (sym pushed) (subst (λ m. RiseTo 0 (ends ++ m ∷ []) (length more)) (sym is_end) (RiseTo-push 0 ends (length bytes) (length more) rises (omega arith)))

-- and the text is the last
pub texts_after : (line : ℕ) (o : Option Answer) (bytes more ends ends' : List ℕ) (old : List (List ℕ)) (n : ℕ) → IfSome o (λ a. more ≡ bytes ++ answer_text line a) → ends' ≡ ends ++ n ∷ [] → n ≡ length more → RiseTo 0 ends (length bytes) → parts bytes 0 ends ≡ old → IfSome o (λ a. parts more 0 ends' ≡ old ++ answer_text line a ∷ [])
texts_after line None bytes more ends ends' old n added pushed is_end rises view = tt
texts_after line (Some a) bytes more ends ends' old n added pushed is_end rises view =
    let size : n ≡ length bytes + length (answer_text line a) = is_end ∙ ap length added ∙ length-append bytes (answer_text line a) in
    ap (λ bs. parts bs 0 ends') added ∙ ap (parts (bytes ++ answer_text line a) 0) pushed ∙ parts-push bytes (answer_text line a) 0 ends n rises size ∙ ap (λ ts. ts ++ answer_text line a ∷ []) view

-- what was there before a line is left where the rest is cut off
pub front_left : (line : ℕ) (o : Option Answer) (bytes more after : List ℕ) (n : ℕ) → IsSome o → IfSome o (λ a. more ≡ bytes ++ answer_text line a) → n ≡ length bytes → after ≡ take n more → after ≡ bytes
front_left line None bytes more after n some added size cut = absurd (cc some)
front_left line (Some a) bytes more after n some added size cut = cut ∙ ap (take n) added ∙ take_at bytes (answer_text line a) n (sym size)

-- and its ends rise as they did
pub rises_before : (bytes bytes' ends ends' : List ℕ) → bytes' ≡ bytes → ends' ≡ ends → RiseTo 0 ends (length bytes) → RiseTo 0 ends' (length bytes')
rises_before bytes bytes' ends ends' same same_ends rises =
    subst (λ (es : List ℕ). RiseTo 0 es (length bytes')) (sym same_ends) (subst (λ (bs : List ℕ). RiseTo 0 ends (length bs)) (sym same) rises)

-- A lane with one line more.
use Rattle.std.proofs.Common.{◌≡◌, ℕ, suc, ◌+◌, List, [], ◌∷◌, ◌++◌, ap, ◌∙◌, sym, arith}
use Rattle.std.proofs.lemmas.List.{map-append}
use Rattle.map_history.specs.declared.line.Line as script
use Rattle.map_history.specs.LegalReport.{Line}
use Rattle.map_history.specs.Lines.{line_text, line_texts}
use Rattle.gen_law.specs.Drawing.{lane_lines, line_drawn, next_state, state_after}

-- the state after one step more
pub step_more : (start steps state state' : ℕ) → state ≡ state_after start steps → state' ≡ next_state state → state' ≡ state_after start (steps + 1)
step_more start steps state state' is next = next ∙ (ap next_state is ∙ ap (state_after start) (let one : suc steps ≡ steps + 1 = omega arith in one))

-- the lines with one more
one_more : (number lane lines : ℕ) → lane_lines number lane lines ++ line_drawn lane (lines + 1) (state_after (number + lane) (lines + 1)) ∷ [] ≡ lane_lines number lane (lines + 1)
one_more number lane lines =
    let one : lines + 1 ≡ suc lines = omega arith in
    ap (λ n. lane_lines number lane lines ++ line_drawn lane n (state_after (number + lane) n) ∷ []) one ∙ ap (lane_lines number lane) (sym one)

-- a line that is drawn from that state comes behind those before it
pub line_more : (number lane lines state : ℕ) (made made' : List script.Line) (line : script.Line) → made' ≡ made ++ line ∷ [] → line_texts made ≡ lane_lines number lane lines
    → state ≡ state_after (number + lane) (lines + 1) → line_text line ≡ line_drawn lane (lines + 1) state → line_texts made' ≡ lane_lines number lane (lines + 1)
line_more number lane lines state made made' line more drawn is one =
    let last : line_text line ≡ line_drawn lane (lines + 1) (state_after (number + lane) (lines + 1)) = one ∙ ap (line_drawn lane (lines + 1)) is in
    ap line_texts more ∙ (map-append line_text made (line ∷ []) ∙ (ap (λ (ls : List Line). ls ++ line_text line ∷ []) drawn ∙ (ap (λ (l : Line). lane_lines number lane lines ++ l ∷ []) last ∙ one_more number lane lines)))

-- A run and the byte after it more, or the last run, or what stands for nothing.
use Rattle.std.proofs.Common.{ℕ, List, [], ◌∷◌, ◌++◌, Ok, sym, ap, ◌∙◌, arith}
use Rattle.std.proofs.lemmas.List.{length-take}
use Rattle.std.proofs.lemmas.Result.{err_from_is_err_and}
use Rattle.script.specs.Grammar.{bytes_of, behind}
use Rattle.script.specs.Steps.{or_bad}
use Rattle.script.proofs.Runs.{escape_inside, some_left, fewer_left, run_decoded, run_refused, run_alone}
use Rattle.script.proofs.field.decode.Goals as goal

pub slice_bounds-extend_from_slice-end : goal.slice_bounds-extend_from_slice-end
slice_bounds-extend_from_slice-end c = omega (arith, escape_inside c.text.rest.now c.in-Some.at (sym c.in-Some.ensures), length-take c.in-Some.at c.text.rest.now)

pub slice_bounds-first_byte-count : goal.slice_bounds-first_byte-count
slice_bounds-first_byte-count c = omega (arith, escape_inside c.text.rest.now c.in-Some.at (sym c.in-Some.ensures))

pub first_byte-requires : goal.first_byte-requires
first_byte-requires c = some_left c.text.rest.now c.in-Some.at (sym c.in-Some.ensures)

pub returns-in_default-first_byte : goal.returns-in_default-first_byte
returns-in_default-first_byte c =
    ap or_bad (c.text.invariant ∙ run_refused c.text.bytes.items c.text.rest.now c.in-Some.at (sym c.in-Some.ensures) c.in_default-first_byte.ensures)

pub text-preserved : goal.text-preserved
text-preserved c =
    let byte = c.in-Some-first_byte.byte in
    let after = c.in-Some-first_byte.after.now in
    let grown = c.in_ok-push.ensures.items ∙ ap (λ (bytes : List ℕ). bytes ++ byte ∷ []) c.in_ok-extend_from_slice.ensures.items in
    c.text.invariant ∙ run_decoded c.text.bytes.items c.text.rest.now after c.in-Some.at byte (sym c.in-Some.ensures) c.in-Some-first_byte.ensures.spelled
    ∙ ap (λ (bytes : List ℕ). behind bytes (bytes_of after)) (sym grown)

pub returns : goal.returns
returns c =
    ap or_bad (c.text.invariant ∙ run_alone c.text.bytes.items c.text.rest.now (sym c.first_escape.ensures ∙ c.in_default.is))
    ∙ ap Ok (sym c.in_ok-extend_from_slice-2.ensures.items)

pub text-smaller : goal.text-smaller
text-smaller c = fewer_left c.text.rest.now c.in-Some-first_byte.after.now c.in-Some.at c.in-Some-first_byte.ensures.shorter

pub returns-in_err-extend_from_slice : goal.returns-in_err-extend_from_slice
returns-in_err-extend_from_slice c =
    let p = err_from_is_err_and c.from_residual.result c.from_residual.ensures.1 in
    rw (p.1, p.2) tt

pub returns-in_err-push : goal.returns-in_err-push
returns-in_err-push c =
    let p = err_from_is_err_and c.from_residual-in_err-push.result c.from_residual-in_err-push.ensures.1 in
    rw (p.1, p.2) tt

pub returns-in_err-extend_from_slice-2 : goal.returns-in_err-extend_from_slice-2
returns-in_err-extend_from_slice-2 c =
    let p = err_from_is_err_and c.from_residual-in_err-extend_from_slice-2.result c.from_residual-in_err-extend_from_slice-2.ensures.1 in
    rw (p.1, p.2) tt

pub slice_bounds-first_byte-start : goal.slice_bounds-first_byte-start
slice_bounds-first_byte-start c = omega (arith, escape_inside c.text.rest.now c.in-Some.at (sym c.in-Some.ensures))

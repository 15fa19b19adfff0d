use Rattle.index_page.specs.Rows.{Row}
use Rattle.std.proofs.lemmas.List.{drop_all, length-take-le, take-append-drop, take-append-le}
use Rattle.std.specs.List.{remove}
use Rattle.std.proofs.lemmas.List.Edits.{length-remove}
use Rattle.std.proofs.Common.{length, ◌<◌, ◌-◌, ap, arith, ◌≡◌, ◌≤◌, ℕ, suc, ◌++◌, List, take, drop, sym, ◌∙◌, append-nil}
use Rattle.index_page.proofs.heap.Heap.keep_first.Goals as goal

-- the first rows are left where the last of some first rows is gone
last_gone : (all rows new : List Row) (last : ℕ) → rows ≡ take (length rows) all → suc last ≡ length rows → new ≡ remove rows last → new ≡ take (length new) all
last_gone all rows new last first is gone =
    let cut : new ≡ take last rows = gone ∙ ap (λ (xs : List Row). take last rows ++ xs) (drop_all (suc last) rows (omega (arith, is))) ∙ append-nil (take last rows) in
    let long : length new ≡ last = ap length cut ∙ length-take-le last rows (omega (arith, is)) in
    let n = length rows in
    let fewer : last ≤ length (take n all) = omega (arith, is, ap length first) in
    let back : take last all ≡ take last rows = ap (take last) (sym (take-append-drop n all)) ∙ take-append-le last (take n all) (drop n all) fewer ∙ ap (take last) (sym first) in
    cut ∙ sym back ∙ ap (λ (k : ℕ). take k all) (sym long)

pub loop-self-smaller : goal.loop-self-smaller
loop-self-smaller c =
    let rows = c.loop-self.self in
    let last = c.len-in-loop-self.result - 1 in
    let less = length-remove rows last (omega (arith, c.loop-self-test.true, c.len.ensures, c.len-in-loop-self.ensures)) in
    let fewer : length c.remove_at.new.self < length rows = omega (arith, ap length c.remove_at.ensures.rows, less) in
    fewer

pub loop-self-preserved : goal.loop-self-preserved
loop-self-preserved c =
    let rows = c.loop-self.self in
    let last = c.len-in-loop-self.result - 1 in
    let less = length-remove rows last (omega (arith, c.loop-self-test.true, c.len.ensures, c.len-in-loop-self.ensures)) in
    record {
      long = omega (arith, ap length c.remove_at.ensures.rows, less, c.loop-self-test.true, c.len.ensures);
      first = last_gone c.args.self.now rows c.remove_at.new.self last c.loop-self.invariant.first (omega (arith, c.loop-self-test.true, c.len.ensures, c.len-in-loop-self.ensures)) c.remove_at.ensures.rows;
    }

use Rattle.std.proofs.Common.{◌≡◌, ◌+◌, ◌∙◌, List, [], ◌++◌, length, drop, get_or, take, suc, ap, sym, arith}
use Rattle.std.proofs.Math.Seq.{take-append_seam}
use Rattle.std.proofs.lemmas.List.{length-replicate}
use Rattle.std.specs.Prelude.{Vec}
use Rattle.std.specs.declared.alloc.Global.{Global}
use Rattle.map_history.specs.declared.counts.Counts.{Counts}
use Rattle.map_history.specs.Statistics.{counts_of}
use Rattle.column_counts.specs.Sums.{sums_of, all_sums, count_lists}
use Rattle.column_counts.proofs.SumLemmas.{sums_long, sums_step, none_left, long_at}
use Rattle.column_counts.proofs.sums.add_up.Goals as goal

pub loop-list-preserved : goal.loop-list-preserved
loop-list-preserved c =
    let lists = c.args.lists.now in let i = c.loop-list.list-index in
    let old = c.loop-list.sums.items in let new = c.add_each.new.sums in
    let list : Vec Counts Global = get_or lists i c.list-item.result in
    let sum : new ≡ sums_of old list.items = c.in_ok-add_each.ensures ∙ (ap (λ (xs : List Counts). sums_of xs c.deref.result.now) c.deref_mut.ensures.value ∙ (ap (λ (ys : List Counts). sums_of old ys) c.deref.ensures.value ∙ ap (λ (l : Vec Counts Global). sums_of old l.items) c.list-item.is)) in
    let as_long = long_at c.args.indexes lists i c.list-item.result c.loop-list-test.true c.requires in
    let before = c.loop-list.invariant.long in
    let kept = ap length sum ∙ sums_long old list.items (as_long ∙ sym before) in
    let long : c.loop-list.sums.len ≡ length new = omega (arith, kept, c.loop-list.sums.ok.0) in
    let written = ap (λ n. take n (new ++ drop (length new) old)) long ∙ take-append_seam new (drop (length new) old) in
    let next : i + 1 ≡ suc i = omega arith in
    record {
      all = ap (λ (sums : List Counts). all_sums sums (count_lists (drop (i + 1) lists))) (written ∙ sum)
          ∙ (ap (λ n. all_sums (sums_of old list.items) (count_lists (drop n lists))) next
          ∙ (sym (sums_step lists i c.list-item.result old c.loop-list-test.true) ∙ c.loop-list.invariant.all));
      long = ap length written ∙ (kept ∙ before);
    }

pub returns : goal.returns
returns c = ap (λ (left : List (Vec Counts Global)). all_sums c.loop-list.sums.items (count_lists left)) (sym (none_left c.args.lists.now c.loop-list.list-index c.loop-list-test.false)) ∙ c.loop-list.invariant.all

pub add_each-requires : goal.add_each-requires
add_each-requires c =
    let as_long = long_at c.args.indexes c.args.lists.now c.loop-list.list-index c.list-item.result c.loop-list-test.true c.requires in
    let same = ap (λ (list : Vec Counts Global). length list.items) c.list-item.is in
    omega (arith, as_long, same, c.loop-list.invariant.long, ap length c.deref.ensures.value, ap length c.deref_mut.ensures.value)

pub loop-list-init : goal.loop-list-init
loop-list-init c =
    let none = c.in_ok-sums.ensures in
    record { all = ap (λ (sums : List Counts). all_sums sums (count_lists c.args.lists.now)) none; long = ap length none ∙ length-replicate c.args.indexes (counts_of []) }

use Rattle.std.proofs.Common.{◌≡◌, ◌∙◌, ap, sym, subst, length, arith}
use Rattle.key_tuple.specs.KeyPlace.{At, cut_of}
use Rattle.key_tuple.specs.Figures.{matching}
use Rattle.compact_record.specs.Record.{PlacedRecord}
use Rattle.key_tuple.specs.declared.mode.Match.{Match}
use Rattle.compact_record.specs.Reading.{record_at}
use Rattle.page_search.specs.Agreeing.{AgreesTo}
use Rattle.page_search.proofs.AgreeLemmas.{fields_within}
use Rattle.page_search.proofs.JudgeLemmas.{match_is}
use Rattle.page_search.proofs.CutLemmas.{admits_is}
use Rattle.page_search.proofs.judging.judge_all.Goals as goal

pub compare_from-found-requires-clause-long : goal.compare_from-found-requires-clause-long
compare_from-found-requires-clause-long g c =
    let size : length c.view.result.key ≡ c.args.fields = ap (λ (x : PlacedRecord). length x.key) c.view.ensures ∙ c.requires.there.count in
    omega (arith, size, c.requires.tuple)

pub compare_from-found-requires-clause-agrees : goal.compare_from-found-requires-clause-agrees
compare_from-found-requires-clause-agrees g c =
    subst (λ (x : PlacedRecord). AgreesTo (g.A.Fields.fields_of c.args.tuple.now) x.key c.figures.result) (sym c.view.ensures)
    (subst (λ (m : Match). AgreesTo (g.A.Fields.fields_of c.args.tuple.now) (record_at c.args.page.now c.args.at c.args.fields).key m) (sym c.figures.ensures) c.requires.agrees)

pub figures-requires : goal.figures-requires
figures-requires g c =
    let fields = c.requires.agrees.fields in
    omega (arith, fields, fields_within (g.A.Fields.fields_of c.args.tuple.now) (record_at c.args.page.now c.args.at c.args.fields).key, c.requires.tuple)

pub returns : goal.returns
returns g c =
    let t = g.A.Fields.fields_of c.args.tuple.now in record {
      admitted = c.is_admitted.ensures ∙ admits_is c.args.mode t c.view.result.key c.compare_from-found.result.order c.compare_from-found.ensures.order ∙ ap (λ (x : PlacedRecord). cut_of c.args.mode t (At x.key)) c.view.ensures;
      figures = match_is c.new.result c.new.ensures.fields c.new.ensures.bytes ∙ c.compare_from-found.ensures.figures ∙ ap (λ (x : PlacedRecord). matching t x.key) c.view.ensures;
    }

pub view-requires : goal.view-requires
view-requires g c = c.requires.there

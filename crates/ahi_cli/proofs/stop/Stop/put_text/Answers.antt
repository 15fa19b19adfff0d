use Rattle.std.proofs.Common.{[], ◌∷◌, ap, sym, ◌∙◌}
use Rattle.std.specs.Prelude.{codes}
use Rattle.map_history.specs.Text.{line_of}
use Rattle.ahi_cli.specs.declared.stop.Stop.TheVariants.{Usage, Script, Shelf, TooLarge}
use Rattle.ahi_cli.specs.Stops.{stop_text}
use Rattle.ahi_cli.proofs.EndsLemmas.{put_as}
use Rattle.ahi_cli.proofs.stop.Stop.put_text.Goals as goal

pub returns-in-Usage-clause-ok : goal.returns-in-Usage-clause-ok
returns-in-Usage-clause-ok c =
    put_as c.put_line.result c.args.out.now.items c.put_line.new.out.items (stop_text Usage) (stop_text c.args.self.now) (ap stop_text (sym c.in-Usage.is)) c.put_line.ensures.ok

pub returns-in-Sizes-clause-ok : goal.returns-in-Sizes-clause-ok
returns-in-Sizes-clause-ok c =
    put_as c.put_line-in-Sizes.result c.args.out.now.items c.put_line-in-Sizes.new.out.items (line_of (codes "sizes" ∷ c.word.result.now ∷ [])) (stop_text c.args.self.now)
    (ap (λ w. line_of (codes "sizes" ∷ w ∷ [])) c.word.ensures ∙ ap stop_text (sym c.in-Sizes.is)) c.put_line-in-Sizes.ensures.ok

pub returns-in-TooLarge-clause-ok : goal.returns-in-TooLarge-clause-ok
returns-in-TooLarge-clause-ok c =
    put_as c.put_line-in-TooLarge.result c.args.out.now.items c.put_line-in-TooLarge.new.out.items (stop_text (TooLarge c.from-in-TooLarge.result)) (stop_text c.args.self.now)
    (ap (λ n. stop_text (TooLarge n)) c.from-in-TooLarge.ensures ∙ ap stop_text (sym c.in-TooLarge.is)) c.put_line-in-TooLarge.ensures.ok

pub returns-in-Script-clause-ok : goal.returns-in-Script-clause-ok
returns-in-Script-clause-ok c =
    put_as c.put_line-in-Script.result c.args.out.now.items c.put_line-in-Script.new.out.items (stop_text (Script c.from.result c.from-in-Script.result c.from-in-Script-2.result)) (stop_text c.args.self.now)
    ((λ i. stop_text (Script (c.from.ensures i) (c.from-in-Script.ensures i) (c.from-in-Script-2.ensures i))) ∙ ap stop_text (sym c.in-Script.is)) c.put_line-in-Script.ensures.ok

pub returns-in-Shelf-clause-ok : goal.returns-in-Shelf-clause-ok
returns-in-Shelf-clause-ok c =
    put_as c.put_line-in-Shelf.result c.args.out.now.items c.put_line-in-Shelf.new.out.items (stop_text (Shelf c.from-in-Shelf.result)) (stop_text c.args.self.now)
    (ap (λ n. stop_text (Shelf n)) c.from-in-Shelf.ensures ∙ ap stop_text (sym c.in-Shelf.is)) c.put_line-in-Shelf.ensures.ok

pub returns-in-Sizes-clause-err : goal.returns-in-Sizes-clause-err
returns-in-Sizes-clause-err c = c.put_line-in-Sizes.ensures.err

pub returns-in-TooLarge-clause-err : goal.returns-in-TooLarge-clause-err
returns-in-TooLarge-clause-err c = c.put_line-in-TooLarge.ensures.err

pub returns-in-Script-clause-err : goal.returns-in-Script-clause-err
returns-in-Script-clause-err c = c.put_line-in-Script.ensures.err

pub returns-in-Shelf-clause-err : goal.returns-in-Shelf-clause-err
returns-in-Shelf-clause-err c = c.put_line-in-Shelf.ensures.err

pub returns-in-Usage-clause-err : goal.returns-in-Usage-clause-err
returns-in-Usage-clause-err c = c.put_line.ensures.err

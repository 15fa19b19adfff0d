use Rattle.std.proofs.Common.{Some, sym, ap, ◌∙◌}
use Rattle.std.specs.Option.{option_map}
use Rattle.index_page.specs.Changes.{page_without}
use Rattle.leaf_rows.proofs.ChangeLemmas.{taken_back}
use Rattle.leaf_rows.proofs.changing.take_back.Goals as goal

pub returns : goal.returns
returns c f key value puts = let g = c.args.frame.now in let place = c.args.place in
    ap (λ o. record g { page = o }) (ap Some c.delete.ensures.done
    ∙ sym (ap (option_map (page_without place)) c.in-Some.is))
    ∙ taken_back f g place key value puts

use Rattle.page_mirror.proofs.HeadLemmas.{count_written}
use Rattle.page_mirror.proofs.steps.own.Goals as goal

pub returns : goal.returns
returns c = λ m h r. count_written h c.args.count r.is r.within (rw (← r.placed) at c.put_owned.ensures.kept)
    (rw (← r.placed) at c.put_owned.ensures.info) (rw (← r.placed) at c.put_owned.ensures.value)

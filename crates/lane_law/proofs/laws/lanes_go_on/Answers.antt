use Rattle.lane_law.proofs.WorkLemmas.{worked_none, worked_more, plain_marks}
use Rattle.lane_law.proofs.laws.lanes_go_on.Goals as goal

pub returns : goal.returns
returns c = record {
  none = worked_none;
  more = λ u v w lines answers line answer did room pieces once. worked_more u v w lines answers line answer did room pieces once;
  plain = λ u v w lines answers line answer did room plain once. worked_more u v w lines answers line answer did room (plain_marks line.op.ask answer plain once.form) once;
}

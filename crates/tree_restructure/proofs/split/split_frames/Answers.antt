use Rattle.std.proofs.Common.{Ok, Err, inl, refl}
use Rattle.index_page.specs.declared.error.PageError.{PageError}
use Rattle.tree_restructure.proofs.BackLemmas.{stands_in, taken_back, splits_under}
use Rattle.tree_restructure.proofs.OutcomeLemmas.{refusal_is, not_refused, refused_too, caused_too}
use Rattle.tree_restructure.proofs.split.split_frames.Goals as goal

pub take_out-requires : goal.take_out-requires
take_out-requires c = let left = c.requires.frames.page.head.number in
    let put = c.in_ok-place.ensures.ok left c.requires.around in
    stands_in left c.number_in-number.result c.args.parent.now c.put_pointer.new.parent
    c.args.cut.key.tuple put.0 c.in_ok-place.place put.1

pub returns-in-Ok-clause-ok : goal.returns-in-Ok-clause-ok
returns-in-Ok-clause-ok c = splits_under c.args.left.now c.cut_frame.new.left c.args.right.now
    c.cut_frame.new.right c.args.parent.now c.put_pointer.new.parent c.args.cut.place
    c.in_ok-place.place c.number_in-number.result c.args.cut.key.tuple c.requires
    c.in-Ok.ensures.ok c.number_in-number.ensures c.in_ok-place.ensures.ok

pub returns-in-Err-clause-err : goal.returns-in-Err-clause-err
returns-in-Err-clause-err c = let left = c.requires.frames.page.head.number in
    let put = c.in_ok-place.ensures.ok left c.requires.around in (
      c.in-Err.ensures.err,
      c.in-Err.ensures.right_err,
      taken_back left c.number_in-number.result c.args.parent.now c.put_pointer.new.parent
          c.args.cut.key.tuple put.0 c.take_out.new.frame c.in_ok-place.place put.1
          c.take_out.ensures,
    )

pub returns-in-Ok-clause-refused : goal.returns-in-Ok-clause-refused
returns-in-Ok-clause-refused c = let frames = c.requires.frames in
    let same = refusal_is c.args.parent.now c.args.right.now c.args.cut.key.tuple frames.fresh
    c.number_in-number.result frames.has_fresh
    (c.number_in-number.ensures frames.fresh frames.has_fresh) in
    not_refused _ _ c.in_ok-place.place (Ok tt) same c.in_ok-place.ensures.refused

pub returns-in-Err-clause-refused : goal.returns-in-Err-clause-refused
returns-in-Err-clause-refused c = let frames = c.requires.frames in
    let same = refusal_is c.args.parent.now c.args.right.now c.args.cut.key.tuple frames.fresh
    c.number_in-number.result frames.has_fresh
    (c.number_in-number.ensures frames.fresh frames.has_fresh) in
    not_refused _ _ c.in_ok-place.place (Err PageError.NoMemory) same c.in_ok-place.ensures.refused

pub returns-in-Err-clause-cause : goal.returns-in-Err-clause-cause
returns-in-Err-clause-cause c = inl refl

pub returns-in_err-place-clause-refused : goal.returns-in_err-place-clause-refused
returns-in_err-place-clause-refused c = let frames = c.requires.frames in
    let same = refusal_is c.args.parent.now c.args.right.now c.args.cut.key.tuple frames.fresh
    c.number_in-number.result frames.has_fresh
    (c.number_in-number.ensures frames.fresh frames.has_fresh) in
    refused_too _ _ c.in_err-place.field-0.0 c.from_residual.result same
    c.in_err-place.ensures.refused c.from_residual.ensures.1

pub returns-in_err-place-clause-cause : goal.returns-in_err-place-clause-cause
returns-in_err-place-clause-cause c = let frames = c.requires.frames in
    let same = refusal_is c.args.parent.now c.args.right.now c.args.cut.key.tuple frames.fresh
    c.number_in-number.result frames.has_fresh
    (c.number_in-number.ensures frames.fresh frames.has_fresh) in
    caused_too _ _ c.in_err-place.field-0.0 c.from_residual.result same
    c.in_err-place.ensures.cause c.from_residual.ensures.1

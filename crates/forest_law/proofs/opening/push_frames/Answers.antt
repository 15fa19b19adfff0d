use Rattle.std.proofs.Common.{ap, refl}
use Rattle.forest_law.specs.declared.objects.Object.TheVariants as object
use Rattle.forest_law.specs.Opening.{first_frame}
use Rattle.forest_law.proofs.AddsLemmas.{adds_none, adds_one, adds_all}
use Rattle.forest_law.proofs.opening.push_frames.Goals as goal

pub loop-block-preserved : goal.loop-block-preserved
loop-block-preserved c =
    adds_one c.args.objects.now.items (λ b. object.Frame (first_frame c.args.clock))
    c.loop-block.objects.items c.push.new.self.items c.loop-block.block
    (object.Frame c.first_frame.result) c.loop-block.invariant (ap object.Frame c.first_frame.ensures) c.in_ok-push.ensures.items

pub returns : goal.returns
returns c =
    adds_all c.args.objects.now.items (λ b. object.Frame (first_frame c.args.clock))
    c.loop-block.objects.items c.loop-block.block c.args.blocks c.args.blocks c.loop-block.invariant
    c.loop-block.auto.block-end c.loop-block-test.false refl

pub loop-block-init : goal.loop-block-init
loop-block-init c = adds_none c.args.objects.now.items
    (λ b. object.Frame (first_frame c.args.clock))

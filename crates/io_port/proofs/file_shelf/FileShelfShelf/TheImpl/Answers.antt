use Rattle.std.proofs.Common.{refl}
use Rattle.io_port.proofs.RealFiles.{IsFileOf-untold, OnFailed-map, UnlessFailed-map, failure_shows, nothing_shows}
use Rattle.io_port.proofs.file_shelf.FileShelfShelf.TheImpl.Goals as goal

pub load-tells : goal.load-tells
load-tells g c = record {
  ok = IsFileOf-untold c.result c.args.name.now;
  within = c.ensures.within;
  too_long = c.ensures.too_long;
  failed = OnFailed-map (failure_shows c.args.self.now c.new.self.now c.args.name.now) c.result c.ensures.failed;
  others = UnlessFailed-map (nothing_shows c.args.self.now c.new.self.now) c.result c.ensures.others;
  kept = (refl, c.ensures.kept);
}

use Rattle.std.proofs.Common.{length}
use Rattle.df_disk.proofs.Kept.{torn_not}
use Rattle.df_disk.proofs.real.FileDiskDisk.write_at.Goals as goal

pub returns-clause-crash : goal.returns-clause-crash
returns-clause-crash g c = λ image now. (image, now, torn_not c.args.at (length c.args.piece.now) image)

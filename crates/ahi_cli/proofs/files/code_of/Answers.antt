use Rattle.ahi_cli.proofs.files.code_of.Goals as goal

pub returns-in-UnknownIndex : goal.returns-in-UnknownIndex
returns-in-UnknownIndex c = rw c.in-UnknownIndex.is

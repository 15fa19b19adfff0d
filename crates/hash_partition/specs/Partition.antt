-- The part that the fields of a partition make.
use Rattle.hash_partition.specs.declared.partition.Partition.TheInside.{Inside}
use Rattle.hash_partition.specs.Part.{Part}

-- its table's nodes and room, and its stamps
abbrev pub part_of_fields : Inside → Part
part_of_fields p =
    record { nodes = p.table.nodes; spare = p.table.spare; stamps = p.stamps.items }

-- Request N1, "one call for a lent list of up to 64 mappings": the batch of a lent list, and the items of a batch.
use Rattle.std.specs.Prelude.{List, ◌++◌, ℕ, length, take, replicate}
use Rattle.mapping.specs.declared.Mapping.{Mapping}
use Rattle.mapping.specs.declared.Batch.{Batch}
use Rattle.mapping.specs.Entry.{zero_mapping}

-- how many records a batch has
abbrev pub batch_size : ℕ
batch_size = 64

-- the batch of a lent list: its first records, zero records past its last, and how many records it has, also where they are too many
unfoldable pub batch_of : List Mapping → Batch
batch_of xs = record { items = take batch_size (xs ++ replicate batch_size zero_mapping); count = length xs }

-- the items of a batch, as many as are counted, in order; a record past the last of the array is all 0
unfoldable pub items_of : Batch → List Mapping
items_of x = take x.count (x.items ++ replicate x.count zero_mapping)

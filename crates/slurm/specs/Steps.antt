-- Steps of reading a file.
use Rattle.serde_json.specs.View.{items_view}
use Rattle.slurm.specs.SlurmFile.{Arrays}
use Rattle.slurm.specs.declared.arrays.Arrays.{Arrays as Slices}

-- the arrays as contracts see them
abbrev pub arrays_view : Slices → Arrays
arrays_view a = record {
  prefix_filters = items_view a.prefix_filters.now;
  bgpsec_filters = items_view a.bgpsec_filters.now;
  prefix_assertions = items_view a.prefix_assertions.now;
  bgpsec_assertions = items_view a.bgpsec_assertions.now;
}

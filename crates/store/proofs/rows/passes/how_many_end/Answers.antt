use Rattle.std.proofs.Common.{◌+◌, ltb, rules}
use Rattle.std.proofs.lemmas.List.Sorted.{IsPartitionedBy-ltb, IsPartitionPoint-from_clause}
use Rattle.store.proofs.Rising.{rises_sorted, first_pass, others_fail}
use Rattle.store.proofs.rows.passes.how_many_end.Goals as goal

pub returns : goal.returns
returns c =
    let life = c.args.life in
    let month = c.args.month in
    let rows = c.args.rows.now in
    let parted = IsPartitionedBy-ltb (λ s. s.month + life) rows month (rises_sorted life 0 month rows c.requires) in
    let point = IsPartitionPoint-from_clause (λ s. ltb (s.month + life) month) rows c.partition_point.result c.partition_point.ensures.partitioned parted (λ a r f' k. search rules) in
    record {
      end = first_pass _ rows _ c.partition_point.ensures.bound point;
      stay = others_fail _ rows _ c.partition_point.ensures.bound point;
      few = c.partition_point.ensures.bound;
    }

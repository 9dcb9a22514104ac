-- A handle may go to another thread, since what it stands for may.
use Rattle.std.specs.Prelude.{Option, Some, None}
use denote.RawPtr.{Ptr, block_ptr, null_ptr}
use base.Fml.{Fml}
use base.Shift.{Keyless}
use mir.Raw.{raw}
use denote.Memory.{lone}
use denote.Param.Send.{IsSend, owning_send, struct_send, sendable}
use denote.Builtin.{RawPtr}
use denote.Struct.Struct.{exits_of}
use denote.Struct.Owning.{shape, fields, to}
use Rattle.std_alloc.proofs.SendSync.{quiet, lies}
use Rattle.std.proofs.alloc.Global.TheSendSync as heap
use Rattle.std.below.std_heap.proofs.GlobalAllocator.TheSendSync as heap_impl
use Rattle.rpkirtr_c.specs.Held.{held}
use Rattle.rpkirtr_c.specs.contracts.judge.SharedJudge as value
use Rattle.rpkirtr_c.proofs.judge.SharedJudge.TheSendSync as value_send
use Rattle.rpkirtr_c.specs.contracts.index.IndexHandle.{the_row, the_type}

held_keyless : {X : Type 0} (p : Ptr) (v : Option X) (owned : X → Fml) → ((x : X) → Keyless (owned x)) → Keyless (held p v owned)
held_keyless (block_ptr b o) (Some x) owned k = k x
held_keyless (block_ptr b o) None owned k = tt
held_keyless null_ptr (Some x) owned k = tt
held_keyless null_ptr None owned k = tt

pub send : IsSend the_row
send = let O = the_type in let ps : IsSend RawPtr = search sendable in
    owning_send O (ps, (heap.the_field_send, tt)) (λ d. held_keyless d.at d.value _ (λ x. (lies value.the_row value_send.the_send d.at x, (heap_impl.the_frees).frees d.alloc (raw (lone (value.the_row).mir)) d.at)))
    (λ k. quiet (to O) (exits_of k (fields O)) ((struct_send (shape O) (ps, (heap.the_field_send, tt))).leaving k))

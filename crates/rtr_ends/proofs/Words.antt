-- The names of other crates that the proofs of this crate use, and where each comes from.
pub use Rattle.byteorder.specs.Endian.{big_bytes}
pub use Rattle.prefixes.proofs.Basics.{all_both, eq_of, eq_self, eq_true, false_if_never, false_of_not, lt_true, not_both, not_eq_of, or_swap, set_other, set_same, true_of_not}
pub use Rattle.prefixes.specs.Orders.{vrp_exact, vrp_total}
pub use Rattle.prefixes.specs.Payload.{IsPayload, Payload, vrp_cmp}
pub use Rattle.prefixes.specs.declared.prefix.IpPrefix.{IpPrefix}
pub use Rattle.prefixes.specs.declared.prefix.IpPrefix.TheVariants.{V4, V6}
pub use Rattle.rtr_pdu.proofs.DeviceLaws.{partial_most, was_counted}
pub use Rattle.rtr_pdu.proofs.JudgingLaws.{begins_exactly, judge_case, reads_judged, shows_judged, whole_exactly}
pub use Rattle.rtr_pdu.proofs.ModeLaws.{length-as_read}
pub use Rattle.rtr_pdu.proofs.NextLaws.{next_shortest, next_size, sent_most, some_sent}
pub use Rattle.rtr_pdu.proofs.ReadLaws.{AreBytes-drop, AreBytes-take}
pub use Rattle.rtr_pdu.proofs.ReaderLaws.{partial_empty, reader_with}
pub use Rattle.rtr_pdu.proofs.RunLaws.{AreRead-push, any_after-push, shows_long, takes_some, unit_long}
pub use Rattle.rtr_pdu.proofs.VersionLaws.{is_byte, version_in-append}
pub use Rattle.rtr_pdu.specs.Counted.{HasFailed, IsSpent, calls_of, device_of, failures_of}
pub use Rattle.rtr_pdu.specs.Device.{GoesOutInPart}
pub use Rattle.rtr_pdu.specs.Judging.{Begins, Faulty, Judgement, Whole, unit_in}
unfoldable pub use Rattle.rtr_pdu.specs.Judging.{judge}
pub use Rattle.rtr_pdu.specs.Payloads.{AreBytes, Key, Report}
pub use Rattle.rtr_pdu.specs.Reader.{IsFaulty, IsRead, IsReader, Reader, ReaderGives, ReaderTakes, after_agreed, fresh, known_version, version_with}
pub use Rattle.rtr_pdu.specs.Stream.{AreRead, IsPartial, IsShortest, Shows, Splits, any_after, is_kind, is_notify, type_of}
unfoldable pub use Rattle.rtr_pdu.specs.Stream.{as_read}
pub use Rattle.rtr_pdu.specs.Unit.{IsUnit, IsUnitOf, Reads, fits, zeros}
pub use Rattle.rtr_pdu.specs.Version.{first_version, header_version, version_in}
pub use Rattle.rtr_pdu.specs.declared.counted.Counted.{Counted}
pub use Rattle.rtr_pdu.specs.declared.unit.Next.{Next}
pub use Rattle.rtr_pdu.specs.declared.unit.Unit.{Unit}
pub use Rattle.rtr_pdu.specs.declared.unit.Unit.TheVariants.{CacheReset, CacheResponse, EndOfData, EndOfData0, ErrorReport, Prefix, ResetQuery, RouterKey, SerialNotify, SerialQuery}
pub use Rattle.rtr_pdu.specs.declared.unit.UnitFault.{UnitFault}
pub use Rattle.rtr_pdu.specs.declared.version.Version.{Version}
pub use Rattle.rtr_pdu.specs.declared.version.Version.TheVariants.{V0, V1}
pub use Rattle.std.proofs.Common.{Bool, Box, Err, Global, IfOk, IfSome, IsErr, IsErrOf, IsOk, IsSome, List, MatchBool, None, Ok, OnOk, Option, Result, Some, [], add-one, ap, append_assoc, arith, cond, drop, false, get_or, if◌then◌else◌, inl, inr, is_some, length, map, min, nat_eq, nat_lt, not, option_map, refl, rules, slice_get, slice_set, subst, subst₂, suc, sym, take, true, unwrap_or, zero, ℕ, ⊎_elim, ◌%◌, ◌&&◌, ◌*◌, ◌++◌, ◌+◌, ◌-◌, ◌/◌, ◌<◌, ◌==◌, ◌^◌, ◌||◌, ◌∙◌, ◌∷◌, ◌≡◌, ◌≤◌, ◌⊎◌}
pub use Rattle.std.proofs.KnownBytes.{Appends-nil, Appends-trans, Consumes-kept, Consumes-nil, Consumes-trans}
pub use Rattle.std.proofs.Math.Bool.{and-false, and-true, or-false, or-true}
pub use Rattle.std.proofs.Math.Nat.{min-le_left, min-le_right}
pub use Rattle.std.proofs.Math.Seq.{drop-append-add, drop-append_seam, drop-cons, drop-nil, take-add, take-append-add, take-append_seam}
pub use Rattle.std.proofs.lemmas.Bool.{and_parts, cases_Bool, cases_eq, cases_lt, or_parts}
pub use Rattle.std.proofs.lemmas.Bool.Decides.{nat_tests}
pub use Rattle.std.proofs.lemmas.Grind.{common_steps}
pub use Rattle.std.proofs.lemmas.List.{append-nil, drop-append-le, drop-drop, drop-map, drop_all, flat_map_more, get_or-map, length-append, length-drop, length-map, length-set, length-take, length-take-le, map-append, nil_from_length, set-get_or, take-append-drop, take_at, take_min, take_more, take_rest}
pub use Rattle.std.proofs.lemmas.List.Concat.{flat_map-append}
pub use Rattle.std.proofs.lemmas.List.Elements.{All-head, All-tail}
pub use Rattle.std.proofs.lemmas.List.Sorted.{le_from_greatest, sum_by_popped, sum_by_pushed}
pub use Rattle.std.proofs.lemmas.List.Sums.{count_by-le-length, get_or-le-sum_by, sum_by-cons, sum_by-set, sum_by_push}
pub use Rattle.std.proofs.lemmas.Map.Keys.{IsDistinct-from_sorted}
pub use Rattle.std.proofs.lemmas.Map.Views.{tells_apart}
pub use Rattle.std.proofs.lemmas.Option.{get_or_from_slice_get, slice_get-get_or, slice_get-map, slice_get_cases, slice_get_past, slice_get_read, slice_get_within}
pub use Rattle.std.proofs.lemmas.Result.{err_from_is_err_and}
pub use Rattle.std.proofs.lemmas.Str.{IsUtf8-nil}
pub use Rattle.std.specs.BinaryHeap.{IsHeap, IsUpperBound, heap_capacity, heap_items, heap_len}
pub use Rattle.std.specs.Box.{with_value}
pub use Rattle.std.specs.Cmp.{eq_by_cmp_equiv}
pub use Rattle.std.specs.FinMap.{len-empty}
pub use Rattle.std.specs.Int.{byte_at}
pub use Rattle.std.specs.Io.KnownBytes.{Appends, Consumes, IsAtEnd, Keeps}
pub use Rattle.std.specs.List.{All, AllByRecursion, list_any}
pub use Rattle.std.specs.List.Sorted.{IsPermutation}
pub use Rattle.std.specs.Ordering.{eq_by_cmp, nat_cmp}
pub use Rattle.std.specs.Prelude.{max, ⊤}
pub use Rattle.std.specs.declared.alloc.AllocError.{AllocError}
pub use Rattle.std.specs.declared.cmp.Reverse.{Reverse}
pub use Rattle.std.specs.declared.rc.Rc.{Rc}
pub use Rattle.vrps.proofs.Listed.{part_is_set, size_of_listing}
pub use Rattle.vrps.proofs.SetLaws.{all_of_members, apply-between, has-empty, has-set_of, has-union, has-with_member, has-without, listing_ascends, same_set, same_vrp, set_of-listing}
pub use Rattle.vrps.proofs.SetVersions.{published_is_instance}
pub use Rattle.vrps.proofs.Sizes.{size_le, size_more}
pub use Rattle.vrps.specs.Instance.{Instance, IsInstance, NumberedSet, versions, versions_from, with_serial}
pub use Rattle.vrps.specs.Serial.{serial_at}
pub use Rattle.vrps.specs.Store.{Known, NoData, Unknown, is_current, published, since, step_from}
pub use Rattle.vrps.specs.Stores.{Publishes, newest, told_since}
pub use Rattle.vrps.specs.VrpSet.{IsVrpSet, VrpSet, empty, has, listing, set_of, size, union, with_member, without}
pub use Rattle.vrps.specs.declared.change.Change.{Change}
pub use Rattle.vrps.specs.declared.serial.Serial.{Serial}
pub use Rattle.vrps.specs.declared.set.SetFault.{SetFault}
pub use Rattle.vrps.specs.declared.set.SetFault.TheVariants.{Memory, TooMany}
pub use Rattle.vrps.specs.declared.store.Published.{Published}
pub use Rattle.vrps.specs.declared.store.Published.TheVariants.{New}

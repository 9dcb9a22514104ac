-- The names of other crates that the proofs of this crate use, and where each comes from.
pub use Rattle.prefixes.proofs.Basics.{all_both, eq_of, eq_self, eq_true, false_if_never, false_of_not, lt_true, not_both, not_eq_of, or_swap, set_other, set_same, true_of_not}
pub use Rattle.prefixes.specs.Orders.{vrp_total}
pub use Rattle.prefixes.specs.Payload.{IsPayload, Payload, vrp_cmp}
pub use Rattle.prefixes.specs.declared.prefix.IpPrefix.{IpPrefix}
pub use Rattle.prefixes.specs.declared.prefix.IpPrefix.TheVariants.{V4, V6}
pub use Rattle.prefixes.specs.declared.route.Route.{Route}
pub use Rattle.rtr_ends.proofs.ByteLists.{drop_none, none_bytes}
pub use Rattle.rtr_ends.proofs.CommitLaws.{change_commits}
pub use Rattle.rtr_ends.proofs.ConsumedUnits.{unit_held}
pub use Rattle.rtr_ends.proofs.Effects.{by_clock, by_close, by_unit, by_whole, clocked_keeps, either, goes_on, goes_so, nothing_out}
pub use Rattle.rtr_ends.proofs.FeedingLaws.{feed_keeps, feed_takes, stopped}
pub use Rattle.rtr_ends.proofs.FetchStreamLaws.{open_link}
pub use Rattle.rtr_ends.proofs.KeptLaws.{byte_tells, called_tells, clocked_tells, is_kept, new_tells, not_due, refused_closed, refused_closes, same_base}
pub use Rattle.rtr_ends.proofs.KeptUnits.{Tells, live_unit}
pub use Rattle.rtr_ends.proofs.OutboxLaws.{all_pulled}
pub use Rattle.rtr_ends.proofs.StagingLaws.{led_none}
pub use Rattle.rtr_ends.proofs.TableLaws.{acts_exactly, false_true}
pub use Rattle.rtr_ends.proofs.WholeAnswerRows.{cache, end_bytes, reset_bytes, response_bytes, v, v_ascends, v_bytes, with_all_of}
pub use Rattle.rtr_ends.specs.Answer.{Reply, and_end, and_on, announcements, answer, end_of_data, report, response, sent, sent_all, serial_answer, session_in, step_answer, whole_answer, withdrawals}
pub use Rattle.rtr_ends.specs.Cache.{Conn, ConnCall, Gives, IsConnCall, Notifies, Takes, Taking, and_moment, can_notify, conn_judged, conn_moment_of, conn_stops, counted, finds_memory, is_none, new_conn, pulled_count, serving, speaks_in, version_at, with_moment}
unfoldable pub use Rattle.rtr_ends.specs.Cache.{conn_byte, conn_notified, conn_pulled, conn_takes}
pub use Rattle.rtr_ends.specs.CacheState.{GivesBytes, Opens, ShowsCache, TakesPiece, conn_consumed, due_at, has_bytes_at, is_open_at, is_wanted_at, notified, without_conns}
pub use Rattle.rtr_ends.specs.Commit.{Commits}
pub use Rattle.rtr_ends.specs.Configuration.{chosen, default_config, limit_of}
pub use Rattle.rtr_ends.specs.Connection.{ConnMoment, Connection, Fault, IsLater, Notify, Pull, Read, Sent, Wanting, bytes_sent, conn_after, in_version, is_published, is_wanting, notice, spoken_in, takes_memory}
pub use Rattle.rtr_ends.specs.Consumed.{IsRouterCall}
pub use Rattle.rtr_ends.specs.Feeding.{FedPiece, feed}
pub use Rattle.rtr_ends.specs.LinkRules.{Over, Router, Staged, Stays, Wrong, ask, asking, commit, emptied, ended_by, fails, is_news, is_strange, may_lack, new_router, stage, staged, told_off}
unfoldable pub use Rattle.rtr_ends.specs.LinkRules.{on_unit}
pub use Rattle.rtr_ends.specs.Peer.{is_wanted_by_peer}
pub use Rattle.rtr_ends.specs.Router.{AsksNow, Closes, Configures, Connects, Noted, Pulls, Receives, Receiving, RouterCall, Speaks, Ticks, asked_by, asks_if, breaks, called, close, expired, judged_by_clock, lacks, of_received, reads, router_judged, router_stops, silent, with_bytes, with_read}
unfoldable pub use Rattle.rtr_ends.specs.Router.{asks, clocked, closed_at, connects_at, receives, router_byte, router_pulled, ticks_at}
pub use Rattle.rtr_ends.specs.RouterLaws.{IsKept, LinkTells}
pub use Rattle.rtr_ends.specs.RouterLink.{Answering, Asked, Closed, Ended, Idle, Link, is_closed, is_due, is_idle, is_reading, name_of, told_link}
pub use Rattle.rtr_ends.specs.RouterShown.{IsShown, Received, ReceivesSo, fed, is_lacking, taking}
pub use Rattle.rtr_ends.specs.Sender.{PullsBytes}
pub use Rattle.rtr_ends.specs.Timing.{Intervals, default_intervals}
pub use Rattle.rtr_ends.specs.Transcript.{AskReset, AskSerial, Asks, At, Begun, Committed, Item, Kept, Lacks, Opened, Question, Reads, Refused, Restarts, Shut, acts_once, at_end_of_data, base_of, bounded, choose, configured, differs, does_commit, emptied_if, has_agreed, is_among, is_commit, is_over, is_same, is_serial, is_wrong, kept, later, moment, nothing, of_version, outstanding, query, question_of, responded, retry_of, session_of, spoken, sum_of, under_way, waiting}
unfoldable pub use Rattle.rtr_ends.specs.Transcript.{led_to}
pub use Rattle.rtr_ends.specs.declared.cache.Cache.{Cache}
pub use Rattle.rtr_ends.specs.declared.configuration.RouterConfig.{RouterConfig}
pub use Rattle.rtr_ends.specs.declared.link.End.{End}
pub use Rattle.rtr_ends.specs.declared.sessions.Sessions.{Sessions}
pub use Rattle.rtr_pdu.proofs.DeviceLaws.{strict}
pub use Rattle.rtr_pdu.proofs.JudgingLaws.{begins_exactly, reads_judged}
pub use Rattle.rtr_pdu.proofs.ModeLaws.{as_read-append}
pub use Rattle.rtr_pdu.proofs.NextLaws.{judge_part, judge_sent, sent_most, some_sent}
pub use Rattle.rtr_pdu.proofs.ReadLaws.{AreBytes-take}
pub use Rattle.rtr_pdu.proofs.ReaderLaws.{partial_short}
pub use Rattle.rtr_pdu.proofs.StreamLaws.{written_is_read}
pub use Rattle.rtr_pdu.proofs.VersionLaws.{is_byte, version_in-append}
pub use Rattle.rtr_pdu.specs.Judging.{Begins, Faulty, Judgement, Whole}
unfoldable pub use Rattle.rtr_pdu.specs.Judging.{judge}
pub use Rattle.rtr_pdu.specs.Kind.{fixed_len}
pub use Rattle.rtr_pdu.specs.Payloads.{AreBytes}
pub use Rattle.rtr_pdu.specs.Stream.{IsPartial, is_notify, type_of}
unfoldable pub use Rattle.rtr_pdu.specs.Stream.{as_read}
pub use Rattle.rtr_pdu.specs.Unit.{IsUnit, IsUnitOf, prefix_bytes, zeros}
pub use Rattle.rtr_pdu.specs.Version.{first_version, header_version, version_in, version_number}
pub use Rattle.rtr_pdu.specs.declared.unit.Unit.{Unit}
pub use Rattle.rtr_pdu.specs.declared.unit.Unit.TheVariants.{CacheReset, CacheResponse, EndOfData, EndOfData0, ErrorReport, Prefix, ResetQuery, RouterKey, SerialNotify, SerialQuery}
pub use Rattle.rtr_pdu.specs.declared.version.Version.{Version}
pub use Rattle.rtr_pdu.specs.declared.version.Version.TheVariants.{V0, V1}
pub use Rattle.std.proofs.Common.{ap, append_assoc, arith, inl, inr, subst, subst₂, sym, zero, ◌∙◌}
pub use Rattle.std.proofs.Math.Bool.{or-false, or-true, or_assoc}
pub use Rattle.std.proofs.Math.ListN.{drop_of_length-le}
pub use Rattle.std.proofs.Math.Nat.{le-min, min-le_left, min-zero, zero-min}
pub use Rattle.std.proofs.Math.Seq.{take-add, take-append_seam}
pub use Rattle.std.proofs.Math.Utf8.{encodes, scalar, scalar_cases, scalars}
pub use Rattle.std.proofs.lemmas.Bool.{and_parts, cases_Bool, cases_eq, cases_lt, or_parts}
pub use Rattle.std.proofs.lemmas.Bool.Decides.{nat_tests}
pub use Rattle.std.proofs.lemmas.Cmp.{eq_by_cmp_equiv}
pub use Rattle.std.proofs.lemmas.Iterator.Adapters.{option_map_id}
pub use Rattle.std.proofs.lemmas.List.{append-nil, append_cancel_left, drop-drop, drop_min, length-append, length-drop, length-map, length-set, length-take, map-append, nil_from_length, take-append-drop, take_all, take_min, take_more}
pub use Rattle.std.proofs.lemmas.List.Concat.{flat_map-append}
pub use Rattle.std.proofs.lemmas.List.Elements.{All-head, All-tail}
pub use Rattle.std.proofs.lemmas.List.Folds.{list_any-append}
pub use Rattle.std.proofs.lemmas.Map.Keys.{IsDistinct-from_sorted}
pub use Rattle.std.proofs.lemmas.Option.{IfSome_then, slice_get_past, slice_get_read}
pub use Rattle.std.proofs.lemmas.Result.{err_from_is_err_and}
pub use Rattle.std.proofs.lemmas.Str.{IsUtf8-nil}
pub use Rattle.std.specs.Int.{byte_at}
pub use Rattle.std.specs.List.{All, AllByRecursion, flat_map, list_any}
pub use Rattle.std.specs.Option.{option_map}
pub use Rattle.std.specs.Ordering.{eq_by_cmp}
pub use Rattle.std.specs.Prelude.{Bool, Err, IfSome, IsSome, List, None, Ok, Option, Result, Some, [], cond, drop, false, find, if◌then◌else◌, is_err, is_ok, is_some, length, map, min, nat_lt, not, option_and_then, refl, slice_get, slice_index_or, slice_set, suc, take, true, ℕ, ⊤, ◌%◌, ◌&&◌, ◌*◌, ◌++◌, ◌+◌, ◌-◌, ◌/◌, ◌<◌, ◌==◌, ◌^◌, ◌||◌, ◌∷◌, ◌≡◌, ◌≤◌, ◌⊎◌}
pub use Rattle.std.specs.Str.{IsUtf8}
pub use Rattle.std.specs.declared.alloc.AllocError.{AllocError}
pub use Rattle.vrps.proofs.Listed.{part_is_set, size_of_listing}
pub use Rattle.vrps.proofs.SetLaws.{all_of_members, has-empty, has-set_of, has-union, has-without, listing-set_of, listing_ascends, same_set, set_of-listing}
pub use Rattle.vrps.proofs.SetVersions.{kept_is_itself, names_itself, published_is_instance}
pub use Rattle.vrps.proofs.Sizes.{size_le}
pub use Rattle.vrps.proofs.StateLaws.{state_is}
pub use Rattle.vrps.specs.Instance.{Instance, IsInstance, NumberedSet, named, versions, versions_from, with_serial}
pub use Rattle.vrps.specs.Origin.{HasState, state}
pub use Rattle.vrps.specs.Serial.{serial_at}
pub use Rattle.vrps.specs.Steps.{HoldsSteps, Steps}
pub use Rattle.vrps.specs.Store.{is_current, published}
pub use Rattle.vrps.specs.Stores.{Publishes}
pub use Rattle.vrps.specs.VrpSet.{IsVrpSet, VrpSet, empty, has, listing, set_of, size, without}
pub use Rattle.vrps.specs.declared.serial.Serial.{Serial}
pub use Rattle.vrps.specs.declared.store.Published.{Published}
pub use Rattle.vrps.specs.declared.store.Published.TheVariants.{New, Unchanged}

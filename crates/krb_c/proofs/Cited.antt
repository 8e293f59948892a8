-- The names that the proofs cite most, passed on from one place. Declares nothing.
unfoldable pub use contract.Running.{tables_of}
pub use Rattle.std.proofs.Common.{◌≡◌, subst, refl, inr, inl, sym, ap, ◌∙◌, ◌+◌, Bool, true, false, cond, List, [], ◌∷◌, ◌++◌, length, drop, arith}
pub use Rattle.std.proofs.alloc.Calls.{handle_tells, token, Goes-blank}
pub use Rattle.std.specs.Prelude.{None, Some, Option, find, map, take, ◌⊎◌, ◌==◌, Err, IfErr, option_map, IsOk, Result, ℕ, Ok, nat_lt, IfSome, IfOk, OnOk}
pub use Rattle.std_alloc.proofs.BoxSteps.Form.{D, B, box_typed, word, Bx, τ, P, R, args, box_ty}
pub use Rattle.std_alloc.proofs.BoxSteps.Steps.{box_in, box_out}
pub use denote.Exit.{yes, no}
pub use denote.Param.{layout, bounded}
pub use denote.RattleType.{RattleType, Valss, owns}
pub use denote.RawPtr.{Ptr, block_ptr, ptr_val, null_ptr, RawPtr, Testable, tests_null, in_a_block}
pub use denote.Signature.{plain, type_at, Slot}
pub use denote.Steps.{nothing, heard, only}
pub use denote.Triple.Spec.{triple_of}
pub use denote.Triple.Table.{entered}
pub use denote.Triple.Walked.{walk_Meets, stay_dropped, says, walk_of, Stays, ends_at, Goes-dropped}
pub use Rattle.krb_wire.specs.Spelling.{Parts}
pub use base.Fml.{ftrue, fsep, flft}
pub use base.Logic.{id⊢, ent, SProp, emp, never, guard_i, fst∗}
pub use contract.Monad.{Fun, fact, fact_use}
pub use contract.Running.{tables}
pub use lib.Dec.{T, lit<}
pub use mir.Syntax.{Fn, dnil, impl, Body, Args, a_type, place, assign, return, tnil, ty_ptr, rv_opd, seq, Dict, dcons, copy}
pub use mir.Val.{Val, has_ty, vstruct, WT, of_list, vnil, vcons, vptr, vnull}
pub use prog.Memory.{Memory}
pub use prog.Routine.{Routine}
pub use prog.Wp.{Tables, WpFn}
pub use seplogic.Ra.Ura.{Ura}
pub use sound.WpLaws.{WpFn-mono, fm_of}
pub use types.ByLocal.{pass_all, free_all, get, look_at, sets, alloc_all, get_in, env, sets_last, lands_as, lands_last}
pub use types.Logic.{Logic, sem}
pub use types.Part.{agg, whole, sub}
pub use types.Run.{and_then, returns, enter, no_more, fld, of_opd, stop, first, exec, bin, branches, lit, blocks}
pub use Rattle.krb_ccache.specs.declared.version.Version.{Version}
pub use Rattle.krb_ccache.specs.Header.{Field, header_at}
pub use Rattle.krb_ccache.specs.Store.{open_default, open_header, CacheState, credentials_format, version_in, open_version, open_result, store_of, first_place, placed_from, live_of, credential_at_place}
pub use denote.Param.Send.{IsSend, EachSend, Frees, sendable, recorded_send, enum_send, AllSend, owning_send, struct_send}
pub use Rattle.std_heap.specs.contracts.GlobalAllocator.TheImpl.{ghosts, dict}
pub use Rattle.std.specs.Global.{Global}
pub use Rattle.krb_c.specs.Walks.{AreKnown}
pub use denote.Triple.Call.{calls_at, calls_at_last}
pub use denote.Triple.Clauses.{Ended, Clauses}
pub use denote.Triple.Statement.{Triple, Contract}
pub use Rattle.std_alloc.specs.Box.Ownership.{box_owns}
pub use Rattle.krb_walk.specs.Store.{Store, IsPlace, IsSound, is_place, end_of, stop_at, live_bytes}
pub use Rattle.std.specs.List.{AllByRecursion, list_all}
pub use Rattle.krb_c.specs.Status.{Adds, refusal_status, name_status}
pub use denote.Struct.Struct.{exits_of, within}
pub use denote.Struct.Owning.{shape, fields, to}
pub use Rattle.krb_wire.specs.Reading.{principal_parts, cc_principal_at}
pub use contract.BorrowLft.{◌⊑◌}
pub use mir.MapTy.{inst_fn}

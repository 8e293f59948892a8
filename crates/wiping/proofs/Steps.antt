-- The names that the walks cite, re-exported from one place. Declares nothing.
pub use Rattle.std.proofs.Common.{ℕ, ◌+◌, Bool, false, List, [], ◌∷◌, refl, ap, ◌≡◌, Bor, ◌^◌, w64, ◌<◌, true, ◌-◌, ◌≤◌, arith}
pub use seplogic.Ra.Ura.{Ura}
pub use base.Fml.{ftrue, fsep, flft, froom, Fml, fwand}
pub use base.Logic.{id⊢, emp, apply∗, SProp, ent, sep}
pub use mir.MapTy.{inst_fn}
pub use mir.Syntax.{Fn, Ty, ty_array}
pub use mir.Val.{Val, vptr, vunit, vint}
pub use prog.Memory.{size, align, up}
pub use prog.Wp.{WpFn}
pub use types.ByLocal.{alloc_all, pass_all, free_all, look_at, get, through, sets, lands_as, env}
pub use types.Kit.{‵, raw, at_ret, ◌⊛◌, some, later, ◌$◌, !, by, move, keep, use1, use2, split, join, pick, learn, fsplit, fjoin, feq_i, feq_l, await, given, group, drop, use0, flt_i, Item, Sq, ◌∵◌, qed, done, rewrite}
pub use types.Logic.{sem, Logic}
pub use types.Part.{agg}
pub use types.Run.{stop, fld, addr, lit, first, branches, skips, exec, no_more, and_then, returns, returns_within, enter, of_opd, unit_lit}
pub use contract.Monad.{fact, fact_i}
pub use contract.Running.{tables}
pub use denote.Builtin.{bool, unit, usize}
pub use denote.Exit.{yes}
pub use denote.Memory.{hidden_shr}
pub use denote.Opens.{unhide}
pub use denote.Param.{param, layout}
pub use denote.Plain.{uint_vals, uint_Tells}
pub use denote.RattleType.{owns}
pub use denote.RawPtr.{block_ptr, Ptr, null_ptr, ptr_val, rawptr_vals, rawptr_Tells}
pub use denote.Signature.{plain}
pub use denote.Steps.{nothing, only, heard}
pub use denote.Triple.Call.{calls_at}
pub use denote.Triple.Spec.{triple_of}
pub use denote.Triple.Walked.{Stays, stay_dropped, walk_of, Goes-dropped}
pub use Rattle.std.proofs.VecSteps.Shapes.{after}
pub use Rattle.std.proofs.alloc.Calls.{Al, α, seen, token, Answer-typed, Takes, at_takes, Takes-goes, Takes-gives, Gives, at_gives, Gives-goes, Gives-Gives}
pub use Rattle.std.proofs.raw_atomic.Walks.{proved, leaves}
pub use Rattle.wiping.specs.Zeros.{HasSize, cleared, zeros}

-- The match: each arm asks what its crate asks, and does what the definition says of its kind. Assumes nothing.
use native.Mathlib.Omega.{arith}
use Rattle.collect_scan.proofs.Heads.{nothing_said}
use Rattle.collect_scan.proofs.Match.{label_there, label_done, label_name_there, label_name_done, dim_there, dim_done, shared_there, shared_done, statics_there, statics_done, redim_there, redim_done, constant_there, constant_done, option_base_there, option_base_done, type_def_there, type_def_done}
use Rattle.collect_scan.proofs.statement.Goals as goal

pub label-requires : goal.label-requires
label-requires c = label_there c.requires.0 c.in-64.is

pub label_name-requires : goal.label_name-requires
label_name-requires c = label_name_there c.requires.0 c.in-65.is

pub dim-requires : goal.dim-requires
dim-requires c = dim_there c.requires.0 c.in-79.is

pub shared-requires : goal.shared-requires
shared-requires c = shared_there c.requires.0 c.in-81.is

pub statics-requires : goal.statics-requires
statics-requires c = statics_there c.requires.0 c.in-82.is

pub redim-requires : goal.redim-requires
redim-requires c = redim_there c.requires.0 c.in-83.is

pub constant-requires : goal.constant-requires
constant-requires c = constant_there c.requires.0 c.in-89.is

pub option_base-requires : goal.option_base-requires
option_base-requires c = option_base_there c.requires.0 c.in-92.is

pub type_def-requires : goal.type_def-requires
type_def-requires c = type_def_there c.requires.0 c.in-93.is

pub returns-in-64 : goal.returns-in-64
returns-in-64 c = label_done c.in-64.is c.label.ensures

pub returns-in-65 : goal.returns-in-65
returns-in-65 c = label_name_done c.in-65.is c.label_name.ensures

pub returns-in-79 : goal.returns-in-79
returns-in-79 c = dim_done c.in-79.is c.dim.ensures

pub returns-in-81 : goal.returns-in-81
returns-in-81 c = shared_done c.in-81.is c.shared.ensures

pub returns-in-82 : goal.returns-in-82
returns-in-82 c = statics_done c.in-82.is c.statics.ensures

pub returns-in-83 : goal.returns-in-83
returns-in-83 c = redim_done c.in-83.is c.redim.ensures

pub returns-in-89 : goal.returns-in-89
returns-in-89 c = constant_done c.in-89.is c.constant.ensures

pub returns-in-92 : goal.returns-in-92
returns-in-92 c = option_base_done c.in-92.is c.option_base.ensures

pub returns-in-93 : goal.returns-in-93
returns-in-93 c = type_def_done c.in-93.is c.type_def.ensures

pub returns-in_default : goal.returns-in_default
returns-in_default c = nothing_said c.requires.0.kept.fit (grind arith)

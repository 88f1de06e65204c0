pub mod RunsOn

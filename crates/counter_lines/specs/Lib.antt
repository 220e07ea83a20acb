pub mod CounterLines

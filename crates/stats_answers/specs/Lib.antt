pub mod StatsTexts
